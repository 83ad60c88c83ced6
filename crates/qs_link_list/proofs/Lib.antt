pub mod LineLaws
pub mod ScanLaws
pub mod OneList
mod Examples
