pub mod Build
pub mod Check
pub mod Bound
pub mod Derive
pub mod Outline
pub mod Exec
pub mod Sample
