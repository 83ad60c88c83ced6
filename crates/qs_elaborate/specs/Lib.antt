pub mod NamesOf
pub mod DeclaredOf
pub mod Naming
pub mod UnitNames
pub mod UnitNamesOf
pub mod FunctionOf
pub mod Pieces
