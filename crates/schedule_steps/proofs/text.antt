pub mod Running
pub mod Standing
pub mod Complete
pub mod Exact
pub mod Causes
pub mod Written
