pub mod PairSets
pub mod Needed
pub mod FreeSites
pub mod Levels
pub mod Shapes
pub mod Slices
