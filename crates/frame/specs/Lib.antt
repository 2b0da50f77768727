pub mod Shape
pub mod Picture
pub mod Described
pub mod Pieces
pub mod Step
pub mod Said
pub mod Walk
