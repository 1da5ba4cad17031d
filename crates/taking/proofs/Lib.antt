pub mod Skipping
pub mod Heads
pub mod Ways
pub mod Inside
pub mod All
