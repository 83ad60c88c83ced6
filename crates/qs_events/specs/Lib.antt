pub mod Events
pub mod BoundedRun
pub mod Runs
pub mod Weights
pub mod Laws
