pub mod BlockLaws
pub mod Firsts
pub mod Laid
