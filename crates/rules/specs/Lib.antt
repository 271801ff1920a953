pub mod Check
pub mod Rules
pub mod Entries
