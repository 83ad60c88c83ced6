pub mod ByteLaws
pub mod KeywordLaws
pub mod PositionLaws
pub mod Variants
pub mod WordLaws
