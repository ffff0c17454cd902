pub mod Reported
pub mod Holding
pub mod Straying
pub mod Losing
