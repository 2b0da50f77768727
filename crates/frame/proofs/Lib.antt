pub mod Joining
pub mod Chunks
pub mod Walking
pub mod Stepping
pub mod Moved
pub mod Said
pub mod Ahead
pub mod Turns
