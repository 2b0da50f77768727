pub mod Parity
pub mod ByRows
