pub mod Exchanging
