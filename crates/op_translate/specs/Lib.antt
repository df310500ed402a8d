pub mod Edits
pub mod Stubs
pub mod Translation
pub mod Answered
