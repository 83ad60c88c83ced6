pub mod TypeSizes
