pub mod Graph
pub mod Parts
pub mod Written
pub mod Answered
pub mod Numbers
pub mod Owned
