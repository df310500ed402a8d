pub mod PairLists
pub mod PairsBelow
pub mod TableReads
pub mod LoopRuns
pub mod Shapes
