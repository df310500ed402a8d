mod Shares
mod Firsts
mod Gathered
mod Naming
mod TurnSteps
mod Giving
mod OneSet
mod Axes
mod Along
mod Parts
mod Sorting
mod Parting
mod Halving
mod OneGrowth
mod OneBisection
mod OneDerivation
mod Votes
pub mod Public
