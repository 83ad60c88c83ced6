pub mod ArgumentLaws
pub mod CallsSteps
pub mod CountedLaws
pub mod CallsLaws
pub mod Refusals
pub mod PlainWords
