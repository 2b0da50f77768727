pub mod Difference
pub mod Lengths
mod Replies
pub mod Pairing
pub mod Examples
