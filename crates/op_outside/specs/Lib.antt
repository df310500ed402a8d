pub mod Outside
pub mod Script
pub mod Memory
