pub mod Refusing
pub mod Deciding
pub mod Removing
