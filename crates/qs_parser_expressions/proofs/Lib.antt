pub mod CodeExpressions
pub mod CodeTypes
pub mod CodeOperations
