mod Blocks
mod Kept
pub mod Public
