pub mod Inputs
pub mod Reports
pub mod Ends
pub mod Serves
pub mod Texts
pub mod Readings
pub mod Findings
