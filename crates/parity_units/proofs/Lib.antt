pub mod Split
pub mod Judging
pub mod Joining
pub mod Counting
