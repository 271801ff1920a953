pub mod Bijections
pub mod Compare
pub mod Symbols
