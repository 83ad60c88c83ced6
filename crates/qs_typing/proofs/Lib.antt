pub mod WatchedExpressions
pub mod Heads
pub mod Headers
pub mod DeclarationTypes
pub mod MemberDefinitions
pub mod Declarators
pub mod CheckingLaws
