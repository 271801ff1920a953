pub mod Compare
pub mod Compared
pub mod Windows
pub mod Questions
