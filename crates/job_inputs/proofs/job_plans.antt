pub mod ToldPlans
pub mod Planning
