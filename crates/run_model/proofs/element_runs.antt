pub mod Reached
pub mod Independent
pub mod Example
pub mod Lists
pub mod RunsKernels
pub mod OnWindows
pub mod Small
