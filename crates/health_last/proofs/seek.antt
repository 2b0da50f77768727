mod Folding
mod Seeking
