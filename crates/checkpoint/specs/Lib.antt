pub mod Cut
pub mod StateText
pub mod Laws
pub mod Reading
pub mod Judged
pub mod StateTextLaws
