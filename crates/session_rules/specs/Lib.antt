-- Document 01, "The receiving session": the rules of a session, and the refusals of a call.
pub mod Rules
