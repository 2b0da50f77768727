pub mod Powers
pub mod Linear
pub mod Blocks
pub mod Joining
pub mod Beginning
