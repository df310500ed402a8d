mod MapTargets
mod Strays
mod WalkTurns
mod Judged
mod Shapes
mod KnownNames
pub mod Public
