pub mod Changes
pub mod Drops
pub mod Lists
pub mod Loops
pub mod Merges
pub mod Partials
pub mod Putting
pub mod Reading
