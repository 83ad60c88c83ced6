pub mod Tasks
pub mod Contexts
pub mod TasksRun
pub mod StackSize
