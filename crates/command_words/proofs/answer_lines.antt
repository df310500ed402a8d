pub mod Halts
pub mod Pieces
pub mod StepLines
pub mod TargetLine
