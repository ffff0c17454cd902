pub mod Observations
pub mod History
pub mod Growth
pub mod Counts
pub mod Onward
pub mod NewGrants
pub mod Causes
pub mod Walks
