pub mod Enlarged
pub mod Every
