mod Telling
mod Filling
mod Words
mod Bits
mod Numbering
mod Parts
mod Blocks
mod Translating
mod Ordering
mod Reaching
mod Columns
mod Marking
mod Alike
mod NoConflicts
pub mod Public
