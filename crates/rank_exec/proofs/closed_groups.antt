pub mod Alike
pub mod Apart
pub mod Swaps
pub mod Groups
pub mod Several
