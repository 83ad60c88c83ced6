pub mod Settling
pub mod RunExamples
