pub mod Files
pub mod Promises
