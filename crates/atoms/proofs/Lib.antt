pub mod Opened
pub mod Standing
pub mod Ways
pub mod Tests
pub mod Over
pub mod Pass
