-- Laws that the other crates' proofs cite.
pub mod Tests
pub mod Lists
pub mod NumberLaws
pub mod SignLaws
pub mod FieldLaws
pub mod Unique
