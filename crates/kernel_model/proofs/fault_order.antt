pub mod Sizes
pub mod Rows
pub mod Values
pub mod Law
