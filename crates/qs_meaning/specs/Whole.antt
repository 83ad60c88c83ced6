-- What is promised of the blocks that are there when a run begins: they hold bytes and whole pointers, and none is larger than a type may be.
use Rattle.std.specs.Prelude.{◌≡◌, ℕ, true, All, List, [], ◌∷◌, ◌++◌, length, map, Some}
use Rattle.qs_syntax.specs.Trees.{UnitTree}
use Rattle.qs_memory.specs.Values.{Pointer}
use Rattle.qs_memory.specs.Memory.{Cell, byte, parts_of}
use Rattle.qs_types.specs.Limits.{IsWithinLimits}
use Rattle.qs_types.specs.WellTyped.{WellTyped}
use Rattle.qs_meaning.specs.Typed.{TypedProgram}
use Rattle.qs_meaning.specs.Units.{typed_of}
use Rattle.qs_meaning.specs.Fits.{are_small}
use Rattle.qs_meaning.specs.FitLaws.{IsAsRead}

-- cells that are bytes and whole pointers
pub data AreWhole : List Cell → Type 0 where
  no_cells : AreWhole []
  byte_before : (b : ℕ) (cells : List Cell) → AreWhole cells → AreWhole (byte b ∷ cells)
  pointer_before : (p : Pointer) (cells : List Cell) → AreWhole cells → AreWhole (parts_of p 0 4 ++ cells)

pub record DataIsWhole (u : TypedProgram) : Type 0 where
  pub whole : All (λ b. AreWhole b.cells) u.blocks
  pub small : are_small (map (λ b. length b.cells) u.blocks) ≡ true

abbrev pub TypedDataIsWhole : Type 0
TypedDataIsWhole =
    (unit : UnitTree) (u : TypedProgram) → IsAsRead unit → WellTyped unit → IsWithinLimits unit → typed_of unit ≡ Some u → DataIsWhole u
