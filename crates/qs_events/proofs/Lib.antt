pub mod RunLaws
pub mod WeightLaws
pub mod WeightExamples
