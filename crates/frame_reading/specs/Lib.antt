pub mod Replies
pub mod Along
