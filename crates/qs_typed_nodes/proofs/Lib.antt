pub mod NamedSizes
pub mod Entries
pub mod PlaceTables
mod NamePlaces
pub mod MemberPlaces
pub mod Loops
pub mod BlankTurns
pub mod KeptAgreement
