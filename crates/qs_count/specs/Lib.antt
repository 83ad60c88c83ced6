pub mod Counted
pub mod Covered
pub mod Missing
pub mod MainCount
pub mod Laws
