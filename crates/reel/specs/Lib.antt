pub mod Layout
pub mod Reading
pub mod Within
pub mod Examples
