pub mod Backwards
pub mod Few
pub mod Sliced
pub mod ByPlans
mod OneRun
