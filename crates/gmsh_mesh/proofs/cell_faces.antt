pub mod Agreeing
pub mod Sorting
pub mod Unique
