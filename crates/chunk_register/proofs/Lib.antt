pub mod Replies
pub mod Filling
pub mod Examples
