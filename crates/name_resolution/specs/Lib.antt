pub mod First
pub mod Scopes
pub mod Work
pub mod Kernels
pub mod Mains
pub mod Programs
pub mod Numbers
