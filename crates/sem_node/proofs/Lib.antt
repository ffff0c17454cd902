pub mod Stepping
pub mod Linked
pub mod Trying
pub mod Within
pub mod KilledEntry
pub mod Zips
pub mod Ordered
pub mod Gathered
