pub mod WholeLines
pub mod ReportRefusal
pub mod ReadsReport
pub mod ReportRanges
pub mod Audited
pub mod ReportHead
