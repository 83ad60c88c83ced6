pub mod Examples
pub mod LinkLaws
pub mod SourceNames
pub mod TaskReach
