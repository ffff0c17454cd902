pub mod ReportOf
