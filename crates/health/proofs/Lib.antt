pub mod Answered
pub mod Parts
pub mod Sound
