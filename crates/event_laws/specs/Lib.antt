pub mod Written
pub mod Reread
pub mod Ignored
pub mod Times
