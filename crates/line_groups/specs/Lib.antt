-- Document 01, "The ihave line": the reserved keys of a line, in groups that stand or fall together.
pub mod Rules
pub mod Answers
