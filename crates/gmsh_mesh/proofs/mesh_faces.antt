pub mod Selecting
pub mod Counting
pub mod Steps
