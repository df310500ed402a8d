mod Asking
mod Within
