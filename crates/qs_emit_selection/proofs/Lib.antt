pub mod Sizes
pub mod Ranges
pub mod LabelLaws
pub mod PieceLaws
pub mod ContextLaws
pub mod LimitLaws
pub mod FitLaws
pub mod EntryLaws
pub mod FunctionLaws
pub mod UnitLaws
mod SelectionExamples
