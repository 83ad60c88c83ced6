pub mod OneMeaning
pub mod Examples
pub mod PlacedForms
pub mod WrittenMeans
pub mod WrittenDerivations
pub mod WordLaws
pub mod FileLaws
pub mod OwnWords
pub mod Readings
mod FileExamples
pub mod DefinitionLaws
