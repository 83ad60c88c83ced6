pub mod HiddenEnds
pub mod ActivationLaws
pub mod SourceLaws
pub mod Following
pub mod SourceSafe
mod Examples
