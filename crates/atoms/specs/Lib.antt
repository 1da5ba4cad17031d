pub mod Standing
pub mod Openings
