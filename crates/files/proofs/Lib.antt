pub mod Stores
pub mod Calls
pub mod Shapes
pub mod Promises
