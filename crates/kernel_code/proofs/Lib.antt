mod Blocks
mod Effects
mod Ends
mod Kernels
mod Patch
mod Rows
mod Runs
mod Safe
mod Steps
mod Values
mod Within
pub mod Public
