pub mod Order
pub mod Runs
pub mod Upwards
pub mod Straying
pub mod Answering
pub mod Losing
