mod Counted
mod Lines
mod Sites
mod Tabled
mod Blamed
