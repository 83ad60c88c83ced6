-- What is promised of the types of constant expressions (C11 6.3.1.8, 6.6).
use Rattle.std.specs.Prelude.{◌≡◌, Bool, true, false, Option, Some, None}
use Rattle.qs_syntax.specs.Trees.{ExprTree}
use Rattle.qs_types.specs.Types.{TypeTree, int, unsigned, char}
use Rattle.qs_types.specs.Contexts.{Context}
use Rattle.qs_types.specs.Expressions.{type_of}
use Rattle.qs_types.specs.Constants.{is_built, is_unsigned}

-- an integer type, and whether it is unsigned
pub data Integer : TypeTree → Bool → Type 0 where
  int_is : Integer int false
  char_is : Integer char false
  unsigned_is : Integer unsigned true

-- the type, where there is one
abbrev pub Typed : Option TypeTree → Bool → Type 0
Typed None u = Unit {0}
Typed (Some t) u = Integer t u

-- an expression that is built as a constant expression has an integer type, if it has one, and `unsigned` exactly where
-- its operands say so
abbrev pub ConstantsHaveTypes : Type 0
ConstantsHaveTypes = (c : Context) (e : ExprTree) → is_built c.type_names e ≡ true → Typed (type_of c e) (is_unsigned c.type_names e)
