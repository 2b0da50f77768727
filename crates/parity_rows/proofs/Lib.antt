pub mod Folds
pub mod Words
pub mod Packing
pub mod Ones
pub mod ByRows
pub mod Loads
