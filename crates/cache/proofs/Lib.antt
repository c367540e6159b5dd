pub mod OpenAnswers
pub mod ReportAnswers
pub mod StepAnswers
pub mod AskAnswers
pub mod Carried
pub mod Named
