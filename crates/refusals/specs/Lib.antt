pub mod Refusals
pub mod Said
