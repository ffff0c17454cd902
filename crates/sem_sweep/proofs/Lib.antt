pub mod Swept
pub mod Lowered
pub mod Leaving
pub mod Unasked
