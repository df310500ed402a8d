pub mod GmshLines
pub mod ToolAnswers
pub mod Endings
pub mod Judged
pub mod Held
pub mod Named
pub mod Loops
pub mod ExplainAnswers
