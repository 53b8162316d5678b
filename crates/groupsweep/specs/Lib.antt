-- Document 01, "Fragments": the sweep.
pub mod Sweep
