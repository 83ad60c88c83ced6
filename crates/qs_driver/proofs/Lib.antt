pub mod MainLaws
mod ArgumentsExamples
pub mod BoundsLaws
mod BoundsExamples
pub mod SizesLaws
pub mod CertifiedLaws
pub mod CertifiedFollows
pub mod CertifiedRefusals
pub mod OneSource
pub mod CostLines
pub mod ProvedLaws
pub mod ProvedReads
pub mod ProvedRefusals
pub mod OwnLaws
pub mod MadeLaws
pub mod MadeFollows
pub mod HeadlineLaws
pub mod SampleCore
pub mod SampleBounds
pub mod SampleLaws
mod SizesExamples
pub mod SampleStacks
pub mod SampleRefusals
pub mod SampleCounts
pub mod SampleStarts
pub mod rooms
pub mod PlainWordsLaws
