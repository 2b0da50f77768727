pub mod Booleans
pub mod Refused
pub mod XorLaws
pub mod Linear
pub mod Every
