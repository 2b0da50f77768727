pub mod Numbers
pub mod Tally
pub mod Replies
pub mod Walk
