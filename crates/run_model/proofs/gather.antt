pub mod Growing
pub mod Headers
pub mod Pieces
pub mod Rows
pub mod Held
