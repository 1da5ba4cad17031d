pub mod Upto
pub mod Flat
pub mod Tick
pub mod Value
pub mod Promises
pub mod Worked
