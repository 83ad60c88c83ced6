mod Options
pub mod Rounding
mod Layouts
mod Extents
mod LayoutSteps
pub mod StructLayouts
pub mod NameLookups
pub mod KnownValues
mod LayoutExamples
pub mod RuleLaws
pub mod LimitLaws
pub mod Violations
mod ConstantTypes
mod RuleTrees
mod DeclarationExamples
mod ExpressionExamples
mod PlacedExamples
mod ValueExamples
mod ConstantExamples
mod HeldBackExamples
mod FaultExamples
mod LimitExamples
mod UnitExamples
mod ReferenceExamples
mod RecordedExamples
mod TypeNameExamples
mod SwitchExamples
