pub mod Bounds
pub mod Cuts
pub mod Numbers
pub mod Growing
pub mod Quotients
pub mod Rounding
