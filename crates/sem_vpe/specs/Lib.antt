pub mod VpeTable
pub mod Starting
pub mod Stored
pub mod Telling
