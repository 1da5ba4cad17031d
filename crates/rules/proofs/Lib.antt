pub mod Ways
pub mod Replies
pub mod Meanings
pub mod Promises
