pub mod PartsLaws
pub mod LinesExamples
