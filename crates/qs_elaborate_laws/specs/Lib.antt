pub mod FitLaws
pub mod Counts
pub mod ExpressionCounts
pub mod SizeLaws
