pub mod NameLaws
pub mod ElfSteps
pub mod UnelfSteps
pub mod PlainWords
pub mod ElfExamples
pub mod UnelfExamples
