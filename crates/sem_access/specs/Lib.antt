pub mod Accesses
pub mod LastWrites
pub mod Runs
pub mod ContentsText
pub mod Transfers
