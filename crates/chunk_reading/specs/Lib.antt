pub mod Counting
pub mod Place
