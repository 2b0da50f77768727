pub mod Longest
pub mod Rows
pub mod Reply
