pub mod RelationLaws
pub mod FitLaws
pub mod TypeLaws
pub mod RangeLaws
pub mod InitialLaws
pub mod LabelLaws
pub mod OutlineLaws
pub mod JoinedLaws
mod FitExamples
mod TermExamples
mod OutlineExamples
pub mod RunExamples
mod SwitchExamples
mod CallGraphExamples
mod SizeExamples
