pub mod Said
pub mod Judgements
pub mod Answers
pub mod Laws
pub mod Endings
pub mod Restarts
pub mod OnCells
pub mod FirstValues
