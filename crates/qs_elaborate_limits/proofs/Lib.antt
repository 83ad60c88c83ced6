mod SourceHeights
mod ReadHeights
mod NumberedHeights
mod TypedHeights
mod FormHeights
mod ExpressionHeights
mod StatementHeights
mod UnitHeights
mod TypedArguments
mod FormArguments
mod ExpressionArguments
mod StatementArguments
mod CoreArguments
mod MostHeld
mod HeldParts
mod HeldExpressions
mod HeldFunctions
mod NestedStatements
mod FewNames
pub mod CoreUnits
mod GivenValues
pub mod MainReturns
pub mod MainParameters
mod PlacedBytes
mod DataBytes
pub mod CoreBytes
pub mod FrameCaps
pub mod ValueLimits
mod CapExamples
