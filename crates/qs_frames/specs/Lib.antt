pub mod Layout
pub mod Starts
pub mod Laws
