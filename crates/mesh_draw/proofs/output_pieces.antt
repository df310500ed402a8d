pub mod Counted
pub mod Cutting
pub mod Searching
pub mod Unique
pub mod Printed
pub mod Running
pub mod LastPrints
