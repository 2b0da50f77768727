pub mod Written
pub mod Modes
pub mod Fields
pub mod Examples
pub mod Recordings
pub mod Last
pub mod Newest
