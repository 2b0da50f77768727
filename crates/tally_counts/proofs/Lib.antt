pub mod Thirty
pub mod Summing
pub mod Keeping
pub mod Answers
