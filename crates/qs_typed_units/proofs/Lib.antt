pub mod HeaderTables
pub mod Variants
pub mod DataOrder
pub mod BlockTurns
