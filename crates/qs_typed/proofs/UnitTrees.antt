-- The typed tree of a typed unit has the functions and blocks that are found by the numbers of its nodes.
use Rattle.std.proofs.Common.{◌≡◌, List, ◌++◌, Some, map, refl, ◌∙◌}
use Rattle.qs_types.specs.References.{literal_blocks}
use Rattle.qs_types.specs.Expressions.{type_of}
use Rattle.qs_syntax.specs.Trees.{UnitTree}
use Rattle.qs_typing_findings.specs.declared.typed_unit.TypedUnit.{TypedUnit}
use Rattle.qs_types.specs.Referents.{referent_of}
use Rattle.qs_typing_findings.specs.NodeReferents.{no_referent, unit_referents}
use Rattle.qs_typing_findings.specs.NodeTypes.{declared_type, unit_types}
use Rattle.qs_typing_findings.specs.TypedOf.{typed_tree}
use Rattle.qs_typing_findings.proofs.TypedLaws.{by_number}
use Rattle.qs_meaning.specs.InitialValues.{text_block}
use Rattle.qs_meaning.specs.Typed.{Function, StaticBlock, TypedProgram}
use Rattle.qs_meaning.specs.Units.{typed_of}
use Rattle.qs_meaning.proofs.UnitsTyped.{units_typed}
use Rattle.qs_typed_units.specs.KnownBlocks.{blocks_known}
use Rattle.qs_typed_units.specs.KnownPrograms.{Tables, functions_known}
use Rattle.qs_typed_units.specs.TablesOf.{AreOf}
use Rattle.qs_typed.specs.UnitLaws.{IsNumberedUnit}
use Rattle.qs_typed.proofs.UnitBlocks.{blocks_typed}
use Rattle.qs_typed.proofs.UnitWhole.{typed_are}

-- the nodes of a typed unit are numbered
pub is_numbered : (typed : TypedUnit) → IsNumberedUnit (typed_tree typed)
is_numbered typed = record {
  well_typed = typed.well_typed;
  types = by_number declared_type type_of typed.unit (unit_types (typed_tree typed)) refl;
  referents = by_number no_referent referent_of typed.unit (unit_referents (typed_tree typed)) refl;
}

pub program_is : (unit : UnitTree) → IsNumberedUnit unit → (t : Tables) → AreOf t unit → (fs : List Function) → functions_known t unit ≡ Some fs → (bs : List StaticBlock) → blocks_known t unit ≡ Some bs
    → typed_of unit ≡ Some (record { functions = fs; blocks = bs ++ map text_block (literal_blocks unit) })
program_is unit n t h fs e bs d =
    let typed = units_typed unit n.well_typed in
    let p : TypedProgram = typed.0 in
    let is : typed_of unit ≡ Some p = typed.1 in
    let functions : p.functions ≡ fs = typed_are unit n.well_typed n.types n.referents t h fs e p is in
    let blocks : p.blocks ≡ bs ++ map text_block (literal_blocks unit) = blocks_typed unit n t h bs d p is in
    is ∙ (λ i. Some (record { functions = functions i; blocks = blocks i }))
