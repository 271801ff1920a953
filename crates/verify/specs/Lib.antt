pub mod Windows
pub mod Answers
