pub mod View
pub mod Nodes
pub mod Heads
pub mod Readers
