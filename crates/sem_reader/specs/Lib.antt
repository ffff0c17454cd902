pub mod Accepted
pub mod Pairs
pub mod Tells
pub mod Reads
