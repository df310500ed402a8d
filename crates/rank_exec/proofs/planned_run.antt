pub mod Elements
pub mod Counting
pub mod Peaking
pub mod SameProgram
pub mod StandardPeak
pub mod Messages
