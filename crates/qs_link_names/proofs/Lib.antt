pub mod ListLaws
pub mod UseLaws
mod Examples
