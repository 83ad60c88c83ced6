pub mod Usage
pub mod Run
pub mod RunStatus
