pub mod Upsets
pub mod Examples
