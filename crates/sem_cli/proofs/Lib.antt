pub mod OtherWords
pub mod Loads
pub mod Appends
pub mod KeyWords
