pub mod Ways
pub mod Memory
