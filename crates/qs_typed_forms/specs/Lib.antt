pub mod Results
pub mod Between
pub mod FormOf
