pub mod VpeSet
pub mod JobStore
pub mod Chain
pub mod Stored
