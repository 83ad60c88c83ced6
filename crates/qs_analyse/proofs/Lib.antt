pub mod NameLaws
pub mod NeedLaws
pub mod OpenNames
pub mod ValidLaws
pub mod PathLaws
pub mod CoverLaws
pub mod AddedLaws
pub mod WrittenLaws
pub mod SettingLaws
pub mod FlagLaws
pub mod FillLaws
pub mod FillingLaws
pub mod MeetLaws
mod Examples
