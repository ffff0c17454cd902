pub mod Messages
pub mod LinkRows
pub mod FabricRows
pub mod Entries
pub mod Starts
pub mod Marks
