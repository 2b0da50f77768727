-- Laws of the walk over the chunks of a frame.
mod Along
