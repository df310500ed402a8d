pub mod Machines
pub mod OnRanks
pub mod Shown
