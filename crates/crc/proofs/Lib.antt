pub mod Laws
pub mod Lanes
pub mod Turns
