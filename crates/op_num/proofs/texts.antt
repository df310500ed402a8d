pub mod Cutting
pub mod Exact
pub mod FewBytes
pub mod Leading
pub mod Reading
pub mod ShortToken
pub mod Words
pub mod Written
