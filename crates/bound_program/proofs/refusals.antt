pub mod First
pub mod Firsts
