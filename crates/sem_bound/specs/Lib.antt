pub mod Counts
pub mod Costs
pub mod Costly
pub mod EachCost
