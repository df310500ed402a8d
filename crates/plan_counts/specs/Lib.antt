pub mod Counts
pub mod Table
pub mod Parts
pub mod Imports
