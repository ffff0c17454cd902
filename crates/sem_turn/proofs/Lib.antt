pub mod Totals
pub mod Fitting
pub mod Moves
pub mod Cutting
pub mod Opening
pub mod Closing
pub mod Hands
