pub mod Options
pub mod CellLaws
pub mod BlockLaws
pub mod StoreLaws
pub mod StepLaws
pub mod WriteLaws
pub mod DefinedLaws
pub mod SoundLaws
pub mod ValueLaws
pub mod TypeLaws
pub mod PointerLaws
pub mod BlankLaws
pub mod ScalarLaws
mod Tables
mod AccessExamples
mod OperationExamples
mod PointerExamples
