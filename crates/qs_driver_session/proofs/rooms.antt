pub mod Follows
pub mod Usage
pub mod Run
