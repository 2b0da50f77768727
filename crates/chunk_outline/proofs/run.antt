pub mod Going
pub mod Handing
