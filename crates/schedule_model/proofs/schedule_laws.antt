pub mod Touches
pub mod Give
pub mod Windows
pub mod Tells
pub mod ByArguments
