pub mod Links
pub mod Kept
pub mod Kinds
pub mod Grades
pub mod Memory
