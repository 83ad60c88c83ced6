-- What is promised of the memory in which a run begins.
use Rattle.std.specs.Prelude.{◌≡◌, Bool, true, Some}
use Rattle.std.specs.List.{list_all}
use Rattle.qs_syntax.specs.Trees.{UnitTree}
use Rattle.qs_syntax_vocabulary.specs.WellFormed.{is_byte}
use Rattle.qs_memory.specs.Soundness.{IsSound}
use Rattle.qs_types.specs.Sites.{Site, unit_sites}
use Rattle.qs_types.specs.References.{TextBlock, expr_texts}
use Rattle.qs_meaning.specs.Typed.{TypedProgram}
use Rattle.qs_meaning.specs.Units.{typed_of, initial_memory}

-- ---- texts (6.4.5)

abbrev pub consists_of_bytes : TextBlock → Bool
consists_of_bytes t = list_all is_byte t.bytes

-- an expression whose texts consist of bytes
abbrev pub has_bytes : Site → Bool
has_bytes s = list_all consists_of_bytes (expr_texts s.expression)

-- the texts of a unit consist of bytes, as those among the tokens of a unit that is read do
abbrev pub texts_are_bytes : UnitTree → Bool
texts_are_bytes unit = list_all has_bytes (unit_sites unit)

-- ---- the memory (5.1.2, 6.7.9)

-- bytes are below 256, and pointers are into blocks that are there and inside them or just past their end
abbrev pub InitialMemoryIsSound : Type 0
InitialMemoryIsSound =
    (unit : UnitTree) (u : TypedProgram) → texts_are_bytes unit ≡ true → typed_of unit ≡ Some u → IsSound (initial_memory u)
