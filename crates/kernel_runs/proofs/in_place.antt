pub mod Standings
pub mod Scattering
pub mod Runs
pub mod Ends
pub mod Savings
