pub mod Owning
pub mod Sample
