pub mod ReadInput
pub mod Asked
pub mod SafeRuns
pub mod Ending
pub mod FoundVerdicts
pub mod Accepting
pub mod Serving
pub mod Pieces
pub mod ReportParts
mod Finding
