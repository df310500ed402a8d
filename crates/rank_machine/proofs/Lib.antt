mod FromIndex
mod Values
mod OnRanks
mod Sharing
pub mod Public
