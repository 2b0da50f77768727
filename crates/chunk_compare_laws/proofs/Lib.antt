pub mod Words
pub mod Chunks
pub mod Pairs
pub mod Call
pub mod Entries
pub mod Compared
