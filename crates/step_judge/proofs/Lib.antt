mod FirstPlaces
mod Firsts
mod Judging
mod Own
mod Room
mod FreshMarks
mod TakenWhole
pub mod Public
