pub mod Pairs
pub mod Compare
pub mod Examples
