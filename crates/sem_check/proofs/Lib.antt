pub mod Following
pub mod Longest
pub mod Repeating
pub mod Judging
pub mod OneVerdict
