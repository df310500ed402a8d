mod Chains
mod Given
mod Stores
mod Invariants
mod Elements
mod Ranks
mod Recorded
mod Joins
mod Whole
mod Holding
pub mod Public
