pub mod Layout
pub mod Time
pub mod Examples
