pub mod Kernels
pub mod Running
pub mod Standing
pub mod Starting
pub mod Within
