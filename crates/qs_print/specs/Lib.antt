pub mod Spelling
pub mod Laws
pub mod Levels
pub mod Printed
pub mod Rows
pub mod Words
pub mod ReadsBack
