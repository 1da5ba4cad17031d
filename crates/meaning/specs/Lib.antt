pub mod Promises
pub mod Worked
