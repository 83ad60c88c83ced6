-- Initialisers (C11 6.7.9): which expression initialises which part of an object, and what the declaration of a local does.
use Rattle.std.specs.Prelude.{ℕ, ◌+◌, ◌*◌, List, [], ◌∷◌, ◌++◌, Option, Some, None, length, min, if◌then◌else◌}
use Rattle.qs_syntax.specs.Trees.{ExprTree, InitialiserTree, Initialisers, no_initialisers, initialiser_and}
use Rattle.qs_syntax.specs.Trees as trees
use Rattle.qs_types.specs.Types.{TypeTree, array, struct, is_array, Structs}
use Rattle.qs_memory.specs.Partial.{◌>>=◌}
use Rattle.qs_types.specs.Layout.{size_of, offset_of}
use Rattle.qs_types.specs.Declarations.{text_of}
use Rattle.qs_types.specs.InitialiserRules.{part_type}
use Rattle.qs_meaning.specs.Typed.{Expr, member, object, Effect, nothing, copy, fill, in_order}
use Rattle.qs_meaning.specs.Forms.{lvalue, TypedExpr, address_of, effect_of}
use Rattle.qs_meaning.specs.Names.{Scope}
use Rattle.qs_meaning.specs.Expressions.{typed, plain_form}
use Rattle.qs_meaning.specs.Blanks.{blank_of}

-- ---- the parts of an object (6.7.9p17): elements and members in order

-- where the part number i begins
abbrev pub part_offset : Structs → TypeTree → ℕ → Option ℕ
part_offset structs (array t n) i = size_of structs t >>= λ size. Some (size * i)
part_offset structs (struct k) i = offset_of structs k i
part_offset structs _ i = None

-- an expression, and the part of the object that it initialises
pub record Piece : Type 0 where
  pub offset : ℕ
  pub type : TypeTree
  pub expression : ExprTree

-- 6.7.9p20: an inner list initialises one part
abbrev mutual
  pub pieces : Structs → TypeTree → (offset : ℕ) → InitialiserTree → Option (List Piece)
  pieces structs t offset (trees.value e) = Some (record { offset = offset; type = t; expression = e } ∷ [])
  pieces structs t offset (trees.list node is) = pieces_from structs t offset 0 is

  pub pieces_from : Structs → TypeTree → (offset number : ℕ) → Initialisers → Option (List Piece)
  pieces_from structs t offset i no_initialisers = Some []
  pieces_from structs t offset i (initialiser_and first rest) =
      part_type structs t i >>= λ u. part_offset structs t i >>= λ at. pieces structs u (offset + at) first >>= λ now.
      pieces_from structs t offset (i + 1) rest >>= λ later. Some (now ++ later)

-- ---- locals

-- 6.7.9p14: of a text as many bytes as there is room for, the zero at its end among them
abbrev pub text_room : TypeTree → (bytes : List ℕ) → ℕ
text_room (array t n) bytes = min n (length bytes + 1)
text_room _ bytes = 0

-- a text that initialises an array is copied from its block
abbrev pub text_set : Scope → TypeTree → (to : Expr) → ExprTree → Option Effect
text_set s t to e =
    text_of e >>= λ bytes. typed s e >>= λ (a : TypedExpr). address_of a.form >>= λ from. Some (copy (text_room t bytes) 1 to from)

-- 6.7.9p11, p13: a scalar or a struct is initialised as by an assignment whose value is discarded
abbrev pub assigned_set : Scope → TypedExpr → ExprTree → Option Effect
assigned_set s part e = typed s e >>= λ a. plain_form s.context.structs part a >>= λ form. Some (effect_of part.type form)

-- the part of the object at this address
abbrev pub piece_set : Scope → (base : Expr) → Piece → Option Effect
piece_set s base p =
    if is_array p.type then text_set s p.type (member p.offset base) p.expression
    else assigned_set s (record { type = p.type; form = lvalue (object (member p.offset base)) }) p.expression

abbrev pub pieces_set : Scope → (base : Expr) → List Piece → Option Effect
pieces_set s base [] = Some nothing
pieces_set s base (p ∷ ps) = piece_set s base p >>= λ now. pieces_set s base ps >>= λ later. Some (in_order now later)

-- 6.7.9p19, p21: first zeros and Nulls everywhere, then the expressions in order
abbrev pub filled : Scope → TypeTree → (base : Expr) → InitialiserTree → Option Effect
filled s t base i =
    blank_of s.context.structs t >>= λ cells. pieces s.context.structs t 0 i >>= λ ps.
    pieces_set s base ps >>= λ sets. Some (in_order (fill cells base) sets)

abbrev pub object_set : Scope → TypedExpr → InitialiserTree → Option Effect
object_set s a i = address_of a.form >>= λ base. filled s a.type base i

-- the local with its initialiser
abbrev pub local_set : Scope → TypedExpr → InitialiserTree → Option Effect
local_set s a (trees.value e) = if is_array a.type then object_set s a (trees.value e) else assigned_set s a e
local_set s a (trees.list node is) = object_set s a (trees.list node is)
