-- What is promised of the blocks that tables of a well typed unit give.
use Rattle.std.specs.Prelude.{◌≡◌, List, ◌++◌, Some, map}
use Rattle.qs_syntax.specs.Trees.{UnitTree}
use Rattle.qs_types.specs.References.{literal_blocks}
use Rattle.qs_meaning.specs.InitialValues.{text_block}
use Rattle.qs_meaning.specs.Typed.{StaticBlock, TypedProgram}
use Rattle.qs_meaning.specs.Units.{typed_of}
use Rattle.qs_typed_units.specs.KnownBlocks.{blocks_known}
use Rattle.qs_typed_units.specs.KnownPrograms.{Tables}
use Rattle.qs_typed_units.specs.TablesOf.{AreOf}
use Rattle.qs_typed.specs.UnitLaws.{IsNumberedUnit}

-- the blocks of the variables, and then those of the texts
abbrev pub UnitBlocksAreTyped : Type 0
UnitBlocksAreTyped =
    (unit : UnitTree) → IsNumberedUnit unit → (t : Tables) → AreOf t unit → (bs : List StaticBlock) → blocks_known t unit ≡ Some bs
    → (p : TypedProgram) → typed_of unit ≡ Some p → p.blocks ≡ bs ++ map text_block (literal_blocks unit)
