-- Laws of UTF-8, and what every public function leaves open: nothing.
pub mod Runs
pub mod AsciiRuns
pub mod Unique
pub mod Answers
pub mod Examples
