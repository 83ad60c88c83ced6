pub mod Choices
pub mod Starts
pub mod PageLaws
pub mod Memories
pub mod StepParts
pub mod Growth
pub mod Runs
pub mod Puts
pub mod Results
pub mod StepLaws
mod StepExamples
mod RunExamples
