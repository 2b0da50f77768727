pub mod Later
pub mod Marks
pub mod Placed
pub mod Shown
pub mod Turn
pub mod Examples
