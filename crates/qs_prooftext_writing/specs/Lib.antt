pub mod Putting
pub mod Tokens
