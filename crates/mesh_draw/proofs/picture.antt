pub mod Points
pub mod Extents
pub mod Labels
pub mod ColourLemmas
pub mod Whole
