pub mod Drafts
pub mod Demand3
pub mod Theorems
pub mod Corollaries
pub mod Scaled
