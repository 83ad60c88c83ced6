pub mod Tests
pub mod OwnSlots
pub mod Slots
pub mod Acceptance
pub mod UnitLaws
pub mod RowLaws
pub mod LiveLaws
pub mod RegisterLaws
pub mod ListLaws
pub mod PackLaws
mod PlaceExamples
