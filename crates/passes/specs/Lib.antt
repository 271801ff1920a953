pub mod Windows
pub mod Strips
