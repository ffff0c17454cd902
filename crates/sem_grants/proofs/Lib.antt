pub mod Reading
pub mod Roots
pub mod Ended
pub mod Backward
