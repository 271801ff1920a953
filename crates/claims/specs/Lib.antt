pub mod Claims
pub mod Walks
pub mod Mismatches
