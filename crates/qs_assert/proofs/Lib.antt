mod Examples
mod ViewExamples
pub mod Agreement
pub mod BitLengths
pub mod EvaluationLaws
pub mod FrontLaws
pub mod NodeListLaws
pub mod WidthLaws
pub mod StackViewLaws
pub mod ValueLaws
pub mod OrderLaws
pub mod ReplacementLaws
pub mod ListEndLaws
pub mod SamenessLaws
pub mod ShapeLaws
pub mod TableLaws
pub mod VariableLaws
pub mod ViewLaws
