pub mod ListLaws
pub mod Examples
