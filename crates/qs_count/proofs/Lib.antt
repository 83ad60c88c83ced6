pub mod MissingLaws
pub mod CheckLaws
pub mod CountLaws
pub mod Examples
