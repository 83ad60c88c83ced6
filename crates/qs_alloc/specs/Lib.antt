pub mod Verification
pub mod Rows
pub mod LiveRanges
pub mod Registers
pub mod Lists
pub mod Packing
