pub mod Needs
pub mod Written
pub mod Fillable
pub mod Additions
pub mod Paths
pub mod Laws
