pub mod Exits
pub mod Operands
pub mod Expressions
pub mod Threads
pub mod Plans
