pub mod RelationLaws
pub mod UseLaws
pub mod NeedLaws
pub mod PlacesLaws
pub mod StopLaws
pub mod StepExamples
mod UnitExamples
