pub mod Measures
pub mod Arguments
pub mod Caps
pub mod Laws
