pub mod Crc
pub mod Blocks
pub mod Folding
