pub mod Counted
pub mod Cases
pub mod Judging
pub mod Checking
pub mod Writing
