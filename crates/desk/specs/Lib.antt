pub mod Desk
pub mod Told
