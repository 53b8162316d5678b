-- Document 02, W4: a letter means the same in either case.
pub mod Letters
