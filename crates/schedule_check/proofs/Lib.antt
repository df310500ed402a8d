mod PlaceReads
mod PlanReads
mod Holds
mod FreshItems
mod ItemPairs
mod Loops
mod PlanMarks
mod Owning
mod RowReads
mod Distinct
mod Rooms
mod OfPlan
mod TakingAll
pub mod Public
