pub mod Commands
pub mod Messages
pub mod Refusals
pub mod Statuses
pub mod Summary
