pub mod Kept
pub mod Run
pub mod Refusals
pub mod Accounts
pub mod Examples
