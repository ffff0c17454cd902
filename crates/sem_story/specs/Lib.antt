pub mod Stages
pub mod Changes
pub mod Telling
pub mod Walks
