pub mod Limits
pub mod Image
pub mod Example
pub mod Bytes
pub mod Faults
pub mod View
