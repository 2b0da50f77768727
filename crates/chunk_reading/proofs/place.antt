mod Listed
mod Answers
