pub mod Masks
pub mod JobPlaces
pub mod Places
pub mod Searched
pub mod Written
pub mod Chains
