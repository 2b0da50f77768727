pub mod Units
pub mod Padded
