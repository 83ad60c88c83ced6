pub mod Punctuators
pub mod Operators
pub mod WellFormed
pub mod Marks
