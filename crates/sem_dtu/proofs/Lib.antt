pub mod Edited
pub mod Started
pub mod Unbound
pub mod Sought
