pub mod Generated
pub mod Drawn
