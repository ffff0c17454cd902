pub mod Running
pub mod Touching
pub mod Renewing
pub mod Counting
pub mod Played
pub mod Quieting
