pub mod Links
pub mod Windows
