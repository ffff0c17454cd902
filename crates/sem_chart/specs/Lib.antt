pub mod Counts
pub mod Numbered
