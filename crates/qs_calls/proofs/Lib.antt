pub mod RelationLaws
pub mod StartLaws
mod CallExamples
