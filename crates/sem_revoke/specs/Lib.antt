pub mod Views
pub mod Scales
pub mod Delegations
pub mod Revocation
pub mod Resting
pub mod Sample
pub mod Exchanges
pub mod Rest
