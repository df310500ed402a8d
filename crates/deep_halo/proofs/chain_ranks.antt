pub mod InTurn
pub mod OneElement
pub mod Ran
pub mod Reached
pub mod Summing
