pub mod Headers
pub mod Steps
pub mod Marks
pub mod Accounting
pub mod Moved
pub mod Synced
pub mod Walking
