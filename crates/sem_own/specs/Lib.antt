pub mod Holding
pub mod Using
