pub mod Packets
pub mod Last
pub mod Seek
pub mod Examples
