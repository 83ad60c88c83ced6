-- What a text begins with: white space, a parenthesis or an atom. An atom is the longest run of letters, digits, `_`, `$`, `#` and `-`; where it begins with a digit or `-` it is a number, else a symbol: a letter, `_` or `$`, and then letters, digits, `_`, `$` and `#`.
use Rattle.std.specs.Prelude.{ℕ, ◌+◌, ℤ, not, List, ◌∷◌, length, take, ◌==◌, if◌then◌else◌, Option, Some, None}
use Rattle.std.specs.List.{prefix_len}
use Rattle.qs_base.specs.Bytes.{is_in_line}
use Rattle.qs_sexpr.specs.Bytes.{is_atom_byte, is_space, is_symbol_byte, starts_number, starts_symbol}
use Rattle.qs_base.specs.Characters.{left_parenthesis, right_parenthesis, semicolon}
use Rattle.qs_sexpr.specs.Numbers.{number_of}
use Rattle.qs_sexpr.specs.declared.pieces.Piece.{Piece}
use Rattle.qs_sexpr.specs.declared.pieces.Piece.TheVariants.{White, Open, Close, Number, Symbol, BadByte, BadNumber}

-- an atom that begins as a number, with so many bytes after its first
abbrev pub number : ℕ → Option ℤ → Piece
number more None = BadNumber
number more (Some n) = Number more n

-- an atom that begins as a symbol, with these bytes after its first
abbrev pub symbol : List ℕ → Piece
symbol bytes =
    if prefix_len is_symbol_byte bytes == length bytes then Symbol (length bytes)
    else BadByte (prefix_len is_symbol_byte bytes + 1)

-- the atom of this byte and these
abbrev pub atom : ℕ → List ℕ → Piece
atom byte bytes =
    if starts_number byte then number (length bytes) (number_of (byte ∷ bytes))
    else if not (starts_symbol byte) then BadByte 0
    else symbol bytes

-- what a text of this byte and these begins with; `;` begins a comment up to the line's end
abbrev pub first_piece : ℕ → List ℕ → Piece
first_piece byte bytes =
    if is_space byte then White 0
    else if byte == semicolon then White (prefix_len is_in_line bytes)
    else if byte == left_parenthesis then Open
    else if byte == right_parenthesis then Close
    else if is_atom_byte byte then atom byte (take (prefix_len is_atom_byte bytes) bytes)
    else BadByte 0
