pub mod Alone
pub mod Isolated
pub mod Safe
