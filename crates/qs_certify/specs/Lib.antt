pub mod Bound
pub mod Given
pub mod Entries
pub mod Certification
pub mod Laws
