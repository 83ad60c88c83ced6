pub mod Harts
pub mod Reports
