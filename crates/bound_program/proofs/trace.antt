pub mod Blocks
pub mod HostValues
pub mod Leaves
pub mod Renamed
pub mod Rounds
pub mod ToldValues
pub mod Turns
pub mod Whole
