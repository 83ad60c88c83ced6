pub mod SetsOf
