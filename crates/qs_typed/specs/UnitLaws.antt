-- What is promised of tables that are those of a well typed unit.
use Rattle.std.specs.Prelude.{◌≡◌, List, Some}
use Rattle.qs_syntax.specs.Trees.{UnitTree}
use Rattle.qs_types.specs.Expressions.{type_of}
use Rattle.qs_types.specs.WellTyped.{WellTyped}
use Rattle.qs_typing_findings.specs.ByNumber.{IsByNumber}
use Rattle.qs_types.specs.Referents.{referent_of}
use Rattle.qs_typing_findings.specs.NodeReferents.{no_referent, unit_referents}
use Rattle.qs_typing_findings.specs.NodeTypes.{declared_type, unit_types}
use Rattle.qs_meaning.specs.Typed.{Function, TypedProgram}
use Rattle.qs_meaning.specs.Units.{typed_of}
use Rattle.qs_typed_units.specs.KnownPrograms.{Tables, functions_known}
use Rattle.qs_typed_units.specs.TablesOf.{AreOf}
use Rattle.qs_typed.specs.UnitVariables.{unit_variables, variables_known}

-- a unit whose types and referents stand at the numbers of its nodes
pub record IsNumberedUnit (unit : UnitTree) : Type 0 where
  pub well_typed : WellTyped unit
  pub types : IsByNumber declared_type type_of unit (unit_types unit)
  pub referents : IsByNumber no_referent referent_of unit (unit_referents unit)

abbrev pub UnitFunctionsAreTyped : Type 0
UnitFunctionsAreTyped =
    (unit : UnitTree) → IsNumberedUnit unit → (t : Tables) → AreOf t unit → (fs : List Function) → functions_known t unit ≡ Some fs
    → (p : TypedProgram) → typed_of unit ≡ Some p → p.functions ≡ fs

abbrev pub UnitVariablesAreKnown : Type 0
UnitVariablesAreKnown = (unit : UnitTree) → IsNumberedUnit unit → (t : Tables) → AreOf t unit → variables_known t unit ≡ unit_variables unit
