pub mod Stores
pub mod ActSteps
pub mod Places
pub mod Cells
pub mod Begun
