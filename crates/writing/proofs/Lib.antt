pub mod Jobs
pub mod Plans
pub mod Ways
pub mod Whole
