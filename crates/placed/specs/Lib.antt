pub mod Blocks
pub mod Placing
