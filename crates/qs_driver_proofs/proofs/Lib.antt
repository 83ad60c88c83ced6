pub mod ToldLaws
pub mod ToldPlaces
pub mod SourceReads
pub mod StepsLaws
pub mod NumberLaws
