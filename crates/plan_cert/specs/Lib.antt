pub mod Awaited
pub mod Told
pub mod Certified
pub mod Judged
pub mod Laws
