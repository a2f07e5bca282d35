pub mod FileReport
pub mod ReportText
