pub mod Samples
mod ExampleScopes
mod ExpressionTreeExamples
mod InitialiserExamples
mod Outcomes
mod UndefinedExamples
mod RunExamples
mod SwitchExamples
pub mod RelationLaws
mod Growth
pub mod Options
mod CompleteTypes
mod TypedExpressions
pub mod FaultlessExpressions
pub mod Bindings
mod ValueExamples
mod UnitExamples
mod TypeNameUnits
mod LocalInitialisers
mod Labels
pub mod Bodies
pub mod Functions
pub mod FunctionsTyped
pub mod FileVariables
pub mod StructTables
pub mod UnitsTyped
pub mod InitialMemory
mod TypedValues
mod RangeLaws
mod StepNeeds
mod ElsewhereLaws
mod ElsewhereSame
mod ElsewhereExamples
mod FitExamples
mod FitConversions
mod FitForms
pub mod FitTypes
mod FitLeaves
mod ConstantWords
mod FitSmall
mod FitExpressions
mod FitLayouts
mod FitInitialisers
mod FitDeclarations
mod FitStatements
pub mod FitLocals
pub mod FitFunctions
mod FitBodies
mod FitTables
pub mod FitSignatures
mod FitSites
pub mod FitUnits
mod Shapes
mod FitData
pub mod DeclaredSizes
pub mod FitBlocks
pub mod FitReadings
pub mod FitTexts
mod NineCaseLaws
