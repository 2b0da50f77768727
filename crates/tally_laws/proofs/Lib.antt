mod Rows
mod Adding
pub mod Kept
pub mod Run
pub mod Refusals
mod Counting
mod Joined
mod Units
pub mod Accounts
pub mod Bound
pub mod First
