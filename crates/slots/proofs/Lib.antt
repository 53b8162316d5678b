-- Every public function's contract leaves one outcome.
pub mod Unique
