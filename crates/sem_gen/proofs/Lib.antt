pub mod Drawing
pub mod Owning
pub mod Sound
pub mod Loads
