pub mod Registers
pub mod Addresses
pub mod EnvironmentCalls
pub mod Ranges
pub mod Fields
pub mod Table
pub mod Encoding
pub mod Kinds
