pub mod Enlarged
pub mod Pattern
pub mod Totalled
