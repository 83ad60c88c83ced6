pub mod FollowLaws
pub mod FitLaws
pub mod DoesAsCore
pub mod UnsignedLaws
pub mod ByteLaws
pub mod RecordLaws
pub mod CodeLaws
pub mod SizeLaws
pub mod WellFormed
pub mod BuiltLaws
pub mod SmallUnits
mod BuildExamples
pub mod SourceNames
pub mod CoreNames
pub mod UnitSizes
pub mod CompiledLaws
