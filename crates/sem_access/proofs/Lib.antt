pub mod Placing
pub mod Passing
pub mod Transferring
pub mod Gathering
