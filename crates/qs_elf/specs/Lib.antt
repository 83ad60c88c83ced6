pub mod Elf
pub mod Parts
pub mod Faults
pub mod Framing
