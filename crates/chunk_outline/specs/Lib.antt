pub mod Runs
pub mod Outline
pub mod Within
pub mod Examples
