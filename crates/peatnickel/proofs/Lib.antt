pub mod Ways
pub mod Promises
