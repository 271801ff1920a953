pub mod Program
pub mod Theorems
pub mod Examples
