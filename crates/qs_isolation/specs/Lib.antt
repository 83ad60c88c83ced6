pub mod Callees
pub mod Links
pub mod Touches
pub mod Isolation
pub mod TaskRuns
