mod Reading
mod Sums
