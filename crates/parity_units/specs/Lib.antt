pub mod Split
pub mod Replies
