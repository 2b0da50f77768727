pub mod Tail
pub mod Fits
