mod Leading
mod Nested
mod OwnPairs
mod Agreeing
mod Dropping
mod ChainLoops
mod Following
mod Tallied
