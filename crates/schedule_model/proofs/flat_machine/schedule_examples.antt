pub mod Lawful
pub mod Refused
pub mod Windows
pub mod OnBuffers
pub mod Parts
