mod ByTurns
mod Keys
mod Layers
mod Standard
mod Picks
mod Own
mod Ready
mod Drawn
mod Judged
mod UnderWay
mod Alike
mod Peaks
mod FirstElements
pub mod Public
