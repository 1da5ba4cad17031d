pub mod Marks
pub mod Ways
