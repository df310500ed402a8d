pub mod Reading
pub mod Owned
