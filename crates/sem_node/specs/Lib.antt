pub mod Running
pub mod Stepping
pub mod Killing
pub mod Ending
pub mod Telling
pub mod Own
