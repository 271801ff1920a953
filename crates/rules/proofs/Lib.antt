pub mod Entry
pub mod Theorems
pub mod Windows
