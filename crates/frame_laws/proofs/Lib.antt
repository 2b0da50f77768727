mod Moved
pub mod Resync
pub mod Written
pub mod Local
pub mod Place
pub mod Examples
