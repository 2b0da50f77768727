pub mod Register
pub mod Finder
