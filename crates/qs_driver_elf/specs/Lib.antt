pub mod Elf
pub mod Unelf
pub mod Laws
