pub mod SortedKeys
pub mod Marks
pub mod Counts
pub mod Walking
pub mod LinkRooms
pub mod Orders
pub mod Opened
pub mod Begun
