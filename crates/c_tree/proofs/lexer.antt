pub mod Values
pub mod Runs
pub mod Closes
pub mod Fits
pub mod Units
pub mod Forms
pub mod Longest
pub mod Lines
pub mod Fronts
pub mod Apart
pub mod OneStep
pub mod Outcomes
pub mod Turns
mod Order
pub mod SomeFront
pub mod SomeOutcome
mod Few
