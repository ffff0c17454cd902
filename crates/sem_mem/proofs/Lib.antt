pub mod KeptRuns
mod Looking
mod Overwriting
mod Meeting
mod Halving
mod Behind
mod Chunking
mod Replaying
pub mod KeptLongest
pub mod Telling
pub mod Ordering
mod Accounting
