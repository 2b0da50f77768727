pub mod ReadBack
pub mod WrittenAgain
