pub mod Linkage
pub mod InternalOf
pub mod LinkedExpressions
pub mod LinkedDeclarations
pub mod LinkedStatements
pub mod LinkedUnits
pub mod Uses
