mod OneArray
pub mod Public
