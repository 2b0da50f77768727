pub mod Layout
pub mod Asking
