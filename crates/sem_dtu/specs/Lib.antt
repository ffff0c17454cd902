pub mod EndpointTable
pub mod Uses
pub mod OwnVpes
pub mod Stored
pub mod Rows
