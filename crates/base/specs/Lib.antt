pub mod Limit
pub mod Number
pub mod Refusal
pub mod Size
pub mod Xor
