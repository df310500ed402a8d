mod Repeating
mod Seeking
mod Wholes
