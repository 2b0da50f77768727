pub mod Rows
pub mod Bound
pub mod Packets
pub mod Units
pub mod Gathering
pub mod Framing
pub mod Answers
