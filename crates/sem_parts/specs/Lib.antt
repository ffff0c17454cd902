pub mod Parts
pub mod SidesAfter
pub mod Lonely
