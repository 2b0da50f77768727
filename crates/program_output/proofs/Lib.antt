mod Placed
mod Spelling
