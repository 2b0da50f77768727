pub mod Packet
pub mod Reading
pub mod Writing
pub mod Examples
