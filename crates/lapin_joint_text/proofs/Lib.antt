pub mod StepLaws
pub mod ReportLaws
