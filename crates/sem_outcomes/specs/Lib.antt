pub mod Met
pub mod Ways
pub mod Endings
pub mod Samples
pub mod Codes
