pub mod Prefixes
pub mod State
