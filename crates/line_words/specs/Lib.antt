-- Document 01, "The ihave line": what may stand behind the words of a line, and which keys come together.
pub mod Standing
