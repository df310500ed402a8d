pub mod Inputs
pub mod Chains
pub mod Maps
pub mod Known
pub mod Seen
pub mod Readings
pub mod Views
pub mod Plans
