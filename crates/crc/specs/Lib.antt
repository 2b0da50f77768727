pub mod Crc
pub mod Held
pub mod Examples
