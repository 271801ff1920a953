pub mod Scaled
pub mod Theorems
pub mod Examples
