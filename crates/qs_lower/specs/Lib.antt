pub mod Choices
pub mod Statements
pub mod Units
pub mod Laws
pub mod WordLaws
pub mod Ways
pub mod StmtPlans
pub mod Leads
