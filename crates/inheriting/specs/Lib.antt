pub mod Inheritance
pub mod Carries
pub mod Offsets
pub mod Images
