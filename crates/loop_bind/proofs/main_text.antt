pub mod ArgTurns
pub mod Lines
pub mod WalkTurns
pub mod HostTurns
pub mod KeptSets
