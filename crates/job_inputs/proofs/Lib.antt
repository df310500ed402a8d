mod Chained
mod Reading
mod BoundFiles
mod MeshText
mod Unowned
mod Unread
mod Sites
mod Known
mod Jobs
mod Lent
mod Stretches
pub mod Public
