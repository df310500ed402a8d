pub mod Sets
pub mod Below
pub mod Placings
pub mod Counting
pub mod Listing
pub mod Reading
pub mod Pushed
