mod Fold
mod History
mod Runs
mod Law
mod Marks
mod Least
mod Sequence
mod Range
mod Facts
mod Inv
mod Messages
mod Elements
mod Stops
mod Joins
mod Whole
mod LeastOfThree
mod Kept
pub mod Public
