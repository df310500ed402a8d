pub mod Alike
pub mod OneDistribution
pub mod OneOutcome
