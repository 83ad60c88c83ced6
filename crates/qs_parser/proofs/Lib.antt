pub mod CodeDeclarations
pub mod CodeStatements
pub mod PlaceLaws
pub mod CodeUnits
pub mod Top
pub mod FaultExamples
