pub mod Jobs
pub mod Written
