pub mod Refusing
pub mod Using
