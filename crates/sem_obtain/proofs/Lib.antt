pub mod Refusing
pub mod Ending
pub mod Services
pub mod Granting
