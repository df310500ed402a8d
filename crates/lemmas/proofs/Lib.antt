pub mod Truth
pub mod Numbers
pub mod Lists
pub mod Below
pub mod Rows
pub mod Growing
