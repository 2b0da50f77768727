pub mod Answers
pub mod Ignored
pub mod Packet
pub mod Reread
pub mod Rows
pub mod Times
pub mod Written
