pub mod RoundTrip
pub mod Modes
pub mod Fields
pub mod Recordings
pub mod Lasts
pub mod Newest
