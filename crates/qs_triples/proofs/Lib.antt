pub mod Modulo
pub mod Names
pub mod FunctionNames
pub mod Bounds
pub mod Answers
pub mod ValuationLaws
pub mod TermLaws
pub mod ConditionLaws
pub mod ArgumentLaws
pub mod PropertyLaws
pub mod SumLaws
pub mod MomentLaws
pub mod CallLaws
pub mod SwitchLaws
pub mod RuleLaws
pub mod FunctionLaws
pub mod PathLaws
pub mod BoundLaws
pub mod ListLaws
mod CountDownExamples
mod LoopExamples
mod SwitchExamples
mod EvenOddExamples
mod DigitsExamples
pub mod NodeLaws
pub mod WalkLaws
pub mod LabelLaws
pub mod EntryLaws
pub mod RoomLaws
