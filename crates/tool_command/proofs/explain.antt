pub mod Holding
pub mod Wording
pub mod Binding
pub mod Telling
pub mod Explaining
