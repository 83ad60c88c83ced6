pub mod StackPointers
pub mod Turns
pub mod Changes
pub mod HartLaws
pub mod RunLaws
pub mod StartLaws
