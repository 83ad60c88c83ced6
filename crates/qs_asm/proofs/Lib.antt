pub mod LaidLaws
pub mod SizingLaws
pub mod AssemblyLaws
pub mod CountingLaws
mod ItemExamples
