pub mod Spot
pub mod Flips
pub mod Places
pub mod SingleFlip
pub mod Padded
