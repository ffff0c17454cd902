pub mod Growing
pub mod LocalRuns
pub mod Together
pub mod EnteredSteps
pub mod Shapes
pub mod LonelyFetch
