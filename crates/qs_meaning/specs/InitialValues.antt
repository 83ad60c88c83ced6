-- What the blocks of a unit hold when a run begins (C11 5.1.2, 6.4.5p6, 6.7.9): the file-scope variables with their initial values, and the
-- texts.
use Rattle.std.specs.Prelude.{ℕ, ◌+◌, true, false, List, [], ◌∷◌, ◌++◌, Option, Some, None, length, map, take, drop, if◌then◌else◌}
use Rattle.qs_syntax_vocabulary.specs.declared.operators.UnaryOperator.{UnaryOperator}
use Rattle.qs_syntax_vocabulary.specs.declared.operators.UnaryOperator.TheVariants as unaries
use Rattle.qs_syntax.specs.Trees.{ExprTree, expr, InitialiserTree}
use Rattle.qs_syntax.specs.Trees as trees
use Rattle.qs_memory.specs.declared.scalar.Scalar.TheVariants as scalars
use Rattle.qs_memory.specs.Partial.{◌>>=◌}
use Rattle.qs_memory.specs.Values.{Pointer, null, into, width}
use Rattle.qs_memory.specs.Memory.{Cell, byte, bytes_of, parts_of, blank_cells}
use Rattle.qs_types.specs.Types.{TypeTree, array, is_pointer, is_array}
use Rattle.qs_types.specs.Contexts.{Entity, local_variable, file_variable, function, given, entity_of}
use Rattle.qs_types.specs.Expressions.{is_null_constant}
use Rattle.qs_types.specs.Constants.{constant_of}
use Rattle.qs_types.specs.Declarations.{text_of}
use Rattle.qs_types.specs.References.{TextBlock}
use Rattle.qs_meaning.specs.Typed.{Object, local, static, StaticBlock}
use Rattle.qs_meaning.specs.Conversions.{scalar_of}
use Rattle.qs_meaning.specs.Names.{Scope, file_variable_object, text_object}
use Rattle.qs_meaning.specs.Blanks.{blank_of}
use Rattle.qs_meaning.specs.Initialisers.{Piece, pieces}

-- ---- constants (6.6)

abbrev pub pointer_width : ℕ
pointer_width = width scalars.Pointer

-- the blocks of the unit are the first ones of the memory
abbrev pub static_pointer : Object → Option Pointer
static_pointer (local k) = None
static_pointer (static k) = Some (into k 0)

abbrev pub entity_pointer : Scope → Option Entity → Option Pointer
entity_pointer s None = None
entity_pointer s (Some (local_variable node t)) = None
entity_pointer s (Some (file_variable node t)) = static_pointer (file_variable_object s.statics node)
entity_pointer s (Some (function node signature body)) = None
entity_pointer s (Some (given signature)) = None

-- the operand of `&`, where it is a name
abbrev pub named_pointer : Scope → ExprTree → Option Pointer
named_pointer s (expr node (trees.name x)) = entity_pointer s (entity_of s.context x)
named_pointer s (expr node _) = None

abbrev pub pointer_by : UnaryOperator → Option Pointer → Option Pointer
pointer_by unaries.Address p = p
pointer_by _ p = None

-- 6.6p9: a text, the name of an array of file scope, and `&` of a variable there
abbrev pub address_constant : Scope → ExprTree → Option Pointer
address_constant s (expr node (trees.text bytes)) = static_pointer (text_object s.statics node.id)
address_constant s (expr node (trees.name x)) = entity_pointer s (entity_of s.context x)
address_constant s (expr node (trees.unary operator a)) = pointer_by operator (named_pointer s a)
address_constant s (expr node _) = None

-- 6.3.2.3p3: a null constant is a null pointer
abbrev pub pointer_constant : Scope → ExprTree → Option Pointer
pointer_constant s e = if is_null_constant e then Some null else address_constant s e

-- 6.6p7, 6.7.9p11: the cells of a scalar of this type; a number is converted by taking as many of its lowest bytes as the type has (6.3.1.3)
abbrev pub constant_cells : Scope → TypeTree → ExprTree → Option (List Cell)
constant_cells s t e =
    if is_pointer t then (pointer_constant s e >>= λ p. Some (parts_of p 0 pointer_width))
    else (constant_of s.context e >>= λ n. Some (bytes_of (width (scalar_of t)) n))

-- ---- texts

-- 6.4.5p6: the bytes, and a zero at the end
abbrev pub text_cells : (bytes : List ℕ) → List Cell
text_cells bytes = map byte bytes ++ byte 0 ∷ []

abbrev pub length_in : TypeTree → ℕ
length_in (array t n) = n
length_in _ = 0

-- 6.7.9p14: as many as there is room for
abbrev pub array_cells : TypeTree → ExprTree → Option (List Cell)
array_cells t e = text_of e >>= λ bytes. Some (take (length_in t) (text_cells bytes))

-- ---- variables

abbrev pub piece_cells : Scope → Piece → Option (List Cell)
piece_cells s p = if is_array p.type then array_cells p.type p.expression else constant_cells s p.type p.expression

-- cells with others in place of those from this place on
abbrev pub written_over : List Cell → (at : ℕ) → List Cell → List Cell
written_over cells at new = take at cells ++ (new ++ drop (at + length new) cells)

abbrev pub pieces_over : Scope → List Piece → List Cell → Option (List Cell)
pieces_over s [] cells = Some cells
pieces_over s (p ∷ ps) cells = piece_cells s p >>= λ new. pieces_over s ps (written_over cells p.offset new)

-- 6.7.9p10, p19, p21: what isn't initialised is blank
abbrev pub initial_cells : Scope → TypeTree → Option InitialiserTree → Option (List Cell)
initial_cells s t None = blank_of s.context.structs t >>= λ b. Some (blank_cells b)
initial_cells s t (Some i) = blank_of s.context.structs t >>= λ b. pieces s.context.structs t 0 i >>= λ ps. pieces_over s ps (blank_cells b)

abbrev pub variable_block : Scope → TypeTree → Option InitialiserTree → Option StaticBlock
variable_block s t i = initial_cells s t i >>= λ cells. Some (record { cells = cells; writable = true })

-- 6.4.5p7: a text isn't written to
abbrev pub text_block : TextBlock → StaticBlock
text_block t = record { cells = text_cells t.bytes; writable = false }
