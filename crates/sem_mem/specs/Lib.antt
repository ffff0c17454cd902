pub mod Writing
pub mod Meeting
pub mod Chunks
pub mod Reading
pub mod Accounts
