pub mod World
pub mod Calls
pub mod Relations
pub mod Starts
