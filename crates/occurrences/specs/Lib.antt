pub mod Distinct
pub mod Occurrences
