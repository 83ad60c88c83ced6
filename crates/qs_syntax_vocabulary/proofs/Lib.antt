pub mod PunctuatorLaws
pub mod OperatorLaws
