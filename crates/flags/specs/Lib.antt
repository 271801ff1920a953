pub mod Observations
pub mod Flags
