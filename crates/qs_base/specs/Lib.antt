pub mod Bytes
pub mod Characters
pub mod Keywords
pub mod Names
pub mod Parameters
pub mod Positions
pub mod Results
pub mod Words
