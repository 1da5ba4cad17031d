pub mod Steps
pub mod Sums
pub mod Ways
pub mod Answers
