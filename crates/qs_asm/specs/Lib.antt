pub mod Items
pub mod Sizing
pub mod Assembly
pub mod Laws
pub mod Counting
