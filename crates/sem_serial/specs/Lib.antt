pub mod Draining
pub mod Listed
pub mod Playing
