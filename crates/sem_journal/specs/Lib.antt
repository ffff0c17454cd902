pub mod EntryText
pub mod SpacedWords
pub mod ReportText
pub mod EntryForms
pub mod EntryRanges
pub mod ShownWords
pub mod Readers
pub mod PartValues
