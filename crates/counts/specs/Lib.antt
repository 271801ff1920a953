pub mod Counts
pub mod Examples
