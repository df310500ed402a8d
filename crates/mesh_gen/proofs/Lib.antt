mod Bounds
mod Rows
mod Weights
mod Short
