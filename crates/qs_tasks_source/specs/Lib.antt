pub mod Activations
pub mod Safe
