-- what a certificate is, and what it says
pub mod Certificates
pub mod Building
pub mod Pushing
pub mod Facts
pub mod Faults
pub mod Verdicts
pub mod Meaning
pub mod Laws
pub mod Said
-- how the code goes about it
pub mod Answers
pub mod Branching
pub mod Checking
pub mod Combining
pub mod Extending
pub mod Flattening
pub mod Fronts
pub mod Learning
pub mod Parts
pub mod Placing
pub mod Plain
pub mod Stacks
pub mod Standing
pub mod View
pub mod Walking
