pub mod Laws
pub mod ReadingLaws
mod ElfExamples
