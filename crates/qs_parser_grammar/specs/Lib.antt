pub mod Heads
pub mod Parse
pub mod ParseDeclarations
pub mod ParseStatements
pub mod Stops
pub mod Operands
pub mod ParseMarked
