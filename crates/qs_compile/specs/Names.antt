-- The names of a source's functions, which the records of an image hold.
use Rattle.std.specs.Prelude.{ℕ, ◌≤◌, List, length, sum_by}
use Rattle.qs_syntax.specs.Numbering.{numbered_unit}
use Rattle.qs_syntax.specs.ReadsUnits.{ReadsUnit}
use Rattle.qs_syntax.specs.Trees.{UnitTree}
use Rattle.qs_syntax_vocabulary.specs.declared.tokens.Token.{Token}
use Rattle.qs_lexer.specs.Terminals.{terminals}
use Rattle.qs_lexer.specs.Tokens.{Tokens}
use Rattle.qs_meaning.specs.Units.{functions_in}
use Rattle.qs_compile.specs.Limits.{most_name_bytes}

-- the bytes that the names of the functions with a body have together
abbrev pub name_bytes_in : UnitTree → ℕ
name_bytes_in unit = sum_by length (functions_in unit)

-- an image has room for them
abbrev pub HasRoomForNames : UnitTree → Type 0
HasRoomForNames unit = name_bytes_in unit ≤ most_name_bytes

-- the names of a unit have together at most as many bytes as a text that it is read from
abbrev pub NamesAreOfTheText : Type 0
NamesAreOfTheText =
    (text : List ℕ) (tokens : List Token) (height : ℕ) (unit : UnitTree) → Tokens text tokens
    → ReadsUnit height (terminals text 0 tokens) unit → name_bytes_in (numbered_unit unit) ≤ length text
