pub mod Standing
pub mod Taking
