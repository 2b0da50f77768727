pub mod Header
pub mod Reading
pub mod Moved
pub mod Within
pub mod Walk
pub mod Examples
