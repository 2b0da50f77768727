pub mod Numbers
pub mod Adding
