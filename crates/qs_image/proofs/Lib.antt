pub mod Parts
pub mod Words
pub mod Tables
pub mod Checks
pub mod Wholes
pub mod Images
pub mod Examples
pub mod WritingLaws
