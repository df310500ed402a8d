mod FieldReads
mod Declared
mod Targets
mod Examples
mod FirstNamed
mod OtherValues
pub mod Public
