pub mod Names
pub mod Running
pub mod Standing
pub mod Complete
pub mod Exact
pub mod Owned
pub mod Causes
