pub mod PublicCalls
pub mod Promises
