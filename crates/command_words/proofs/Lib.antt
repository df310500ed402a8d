mod OneFault
mod Within
mod Asking
mod Undumped
pub mod Public
