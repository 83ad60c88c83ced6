-- The type of an expression that is built as a constant expression is: it is an integer type, and `unsigned` exactly where the operands say so.
use Rattle.std.proofs.Common.{◌≡◌, ℕ, ◌==◌, Bool, true, false, ◌&&◌, ◌||◌, not, List, ◌++◌, Option, Some, None, is_some, refl, sym, subst, if◌then◌else◌}
use Rattle.std.proofs.lemmas.Bool.Decides.{Decides-eqb}
use Rattle.std.specs.Cmp.{first_so, second_so}
use Rattle.qs_syntax_vocabulary.specs.declared.operators.UnaryOperator.TheVariants as unaries
use Rattle.qs_syntax_vocabulary.specs.declared.operators.BinaryOperator.{BinaryOperator}
use Rattle.qs_syntax_vocabulary.specs.declared.operators.BinaryOperator.TheVariants as binaries
use Rattle.qs_syntax.specs.declared.types.Base.{Base}
use Rattle.qs_syntax.specs.declared.types.TypeName.{TypeName}
use Rattle.qs_syntax.specs.Trees.{ExprTree, expr, ShapeTree}
use Rattle.qs_syntax.specs.Trees as trees
use Rattle.qs_types.specs.Types.{TypeTree, int, unsigned, char, void, pointer, array, struct, Structs, same_type, is_integer}
use Rattle.qs_types.specs.Layout.{and_then}
use Rattle.qs_types.specs.declared.rules.Rule.TheVariants as rules
use Rattle.qs_types.specs.Rules.{Test, test, keeps, breaks_one, type_unless}
use Rattle.qs_types.specs.Contexts.{Context, base_type, starred, is_void_base, is_type_in}
use Rattle.qs_types.specs.Conversions.{decayed}
use Rattle.qs_types.specs.Expressions.{Judged, judged, type_of, shape_judged, may_cast, type_or_void, unary_judged, binary_judged, cast_judged, size_judged, conditional_judged}
use Rattle.qs_types.specs.ConstantLaws.{Integer, int_is, char_is, unsigned_is, Typed}
use Rattle.qs_types.specs.Constants.{is_built, is_built_shape, is_integer_name, is_integer_base, is_unsigned, is_unsigned_shape, is_unsigned_by, is_unsigned_base}

abbrev judged_type : Option Judged → Option TypeTree
judged_type o = and_then o (λ j. type_unless j.tests j.type)

-- ---- operators

binary_typed : (s : Structs) (o : BinaryOperator) (a b : ExprTree) (t u : TypeTree) (p q : Bool) → Integer t p → Integer u q → Typed (judged_type (Some (binary_judged s o a (decayed t) b (decayed u)))) (is_unsigned_by o p q)
binary_typed s binaries.Multiply a b _ _ _ _ int_is int_is = int_is
binary_typed s binaries.Multiply a b _ _ _ _ int_is char_is = int_is
binary_typed s binaries.Multiply a b _ _ _ _ int_is unsigned_is = unsigned_is
binary_typed s binaries.Multiply a b _ _ _ _ char_is int_is = int_is
binary_typed s binaries.Multiply a b _ _ _ _ char_is char_is = int_is
binary_typed s binaries.Multiply a b _ _ _ _ char_is unsigned_is = unsigned_is
binary_typed s binaries.Multiply a b _ _ _ _ unsigned_is int_is = unsigned_is
binary_typed s binaries.Multiply a b _ _ _ _ unsigned_is char_is = unsigned_is
binary_typed s binaries.Multiply a b _ _ _ _ unsigned_is unsigned_is = unsigned_is
binary_typed s binaries.Divide a b _ _ _ _ int_is int_is = int_is
binary_typed s binaries.Divide a b _ _ _ _ int_is char_is = int_is
binary_typed s binaries.Divide a b _ _ _ _ int_is unsigned_is = unsigned_is
binary_typed s binaries.Divide a b _ _ _ _ char_is int_is = int_is
binary_typed s binaries.Divide a b _ _ _ _ char_is char_is = int_is
binary_typed s binaries.Divide a b _ _ _ _ char_is unsigned_is = unsigned_is
binary_typed s binaries.Divide a b _ _ _ _ unsigned_is int_is = unsigned_is
binary_typed s binaries.Divide a b _ _ _ _ unsigned_is char_is = unsigned_is
binary_typed s binaries.Divide a b _ _ _ _ unsigned_is unsigned_is = unsigned_is
binary_typed s binaries.Remainder a b _ _ _ _ int_is int_is = int_is
binary_typed s binaries.Remainder a b _ _ _ _ int_is char_is = int_is
binary_typed s binaries.Remainder a b _ _ _ _ int_is unsigned_is = unsigned_is
binary_typed s binaries.Remainder a b _ _ _ _ char_is int_is = int_is
binary_typed s binaries.Remainder a b _ _ _ _ char_is char_is = int_is
binary_typed s binaries.Remainder a b _ _ _ _ char_is unsigned_is = unsigned_is
binary_typed s binaries.Remainder a b _ _ _ _ unsigned_is int_is = unsigned_is
binary_typed s binaries.Remainder a b _ _ _ _ unsigned_is char_is = unsigned_is
binary_typed s binaries.Remainder a b _ _ _ _ unsigned_is unsigned_is = unsigned_is
binary_typed s binaries.Add a b _ _ _ _ int_is int_is = int_is
binary_typed s binaries.Add a b _ _ _ _ int_is char_is = int_is
binary_typed s binaries.Add a b _ _ _ _ int_is unsigned_is = unsigned_is
binary_typed s binaries.Add a b _ _ _ _ char_is int_is = int_is
binary_typed s binaries.Add a b _ _ _ _ char_is char_is = int_is
binary_typed s binaries.Add a b _ _ _ _ char_is unsigned_is = unsigned_is
binary_typed s binaries.Add a b _ _ _ _ unsigned_is int_is = unsigned_is
binary_typed s binaries.Add a b _ _ _ _ unsigned_is char_is = unsigned_is
binary_typed s binaries.Add a b _ _ _ _ unsigned_is unsigned_is = unsigned_is
binary_typed s binaries.Subtract a b _ _ _ _ int_is int_is = int_is
binary_typed s binaries.Subtract a b _ _ _ _ int_is char_is = int_is
binary_typed s binaries.Subtract a b _ _ _ _ int_is unsigned_is = unsigned_is
binary_typed s binaries.Subtract a b _ _ _ _ char_is int_is = int_is
binary_typed s binaries.Subtract a b _ _ _ _ char_is char_is = int_is
binary_typed s binaries.Subtract a b _ _ _ _ char_is unsigned_is = unsigned_is
binary_typed s binaries.Subtract a b _ _ _ _ unsigned_is int_is = unsigned_is
binary_typed s binaries.Subtract a b _ _ _ _ unsigned_is char_is = unsigned_is
binary_typed s binaries.Subtract a b _ _ _ _ unsigned_is unsigned_is = unsigned_is
binary_typed s binaries.ShiftLeft a b _ _ _ _ int_is int_is = int_is
binary_typed s binaries.ShiftLeft a b _ _ _ _ int_is char_is = int_is
binary_typed s binaries.ShiftLeft a b _ _ _ _ int_is unsigned_is = int_is
binary_typed s binaries.ShiftLeft a b _ _ _ _ char_is int_is = int_is
binary_typed s binaries.ShiftLeft a b _ _ _ _ char_is char_is = int_is
binary_typed s binaries.ShiftLeft a b _ _ _ _ char_is unsigned_is = int_is
binary_typed s binaries.ShiftLeft a b _ _ _ _ unsigned_is int_is = unsigned_is
binary_typed s binaries.ShiftLeft a b _ _ _ _ unsigned_is char_is = unsigned_is
binary_typed s binaries.ShiftLeft a b _ _ _ _ unsigned_is unsigned_is = unsigned_is
binary_typed s binaries.ShiftRight a b _ _ _ _ int_is int_is = int_is
binary_typed s binaries.ShiftRight a b _ _ _ _ int_is char_is = int_is
binary_typed s binaries.ShiftRight a b _ _ _ _ int_is unsigned_is = int_is
binary_typed s binaries.ShiftRight a b _ _ _ _ char_is int_is = int_is
binary_typed s binaries.ShiftRight a b _ _ _ _ char_is char_is = int_is
binary_typed s binaries.ShiftRight a b _ _ _ _ char_is unsigned_is = int_is
binary_typed s binaries.ShiftRight a b _ _ _ _ unsigned_is int_is = unsigned_is
binary_typed s binaries.ShiftRight a b _ _ _ _ unsigned_is char_is = unsigned_is
binary_typed s binaries.ShiftRight a b _ _ _ _ unsigned_is unsigned_is = unsigned_is
binary_typed s binaries.Less a b _ _ _ _ int_is int_is = int_is
binary_typed s binaries.Less a b _ _ _ _ int_is char_is = int_is
binary_typed s binaries.Less a b _ _ _ _ int_is unsigned_is = int_is
binary_typed s binaries.Less a b _ _ _ _ char_is int_is = int_is
binary_typed s binaries.Less a b _ _ _ _ char_is char_is = int_is
binary_typed s binaries.Less a b _ _ _ _ char_is unsigned_is = int_is
binary_typed s binaries.Less a b _ _ _ _ unsigned_is int_is = int_is
binary_typed s binaries.Less a b _ _ _ _ unsigned_is char_is = int_is
binary_typed s binaries.Less a b _ _ _ _ unsigned_is unsigned_is = int_is
binary_typed s binaries.LessEqual a b _ _ _ _ int_is int_is = int_is
binary_typed s binaries.LessEqual a b _ _ _ _ int_is char_is = int_is
binary_typed s binaries.LessEqual a b _ _ _ _ int_is unsigned_is = int_is
binary_typed s binaries.LessEqual a b _ _ _ _ char_is int_is = int_is
binary_typed s binaries.LessEqual a b _ _ _ _ char_is char_is = int_is
binary_typed s binaries.LessEqual a b _ _ _ _ char_is unsigned_is = int_is
binary_typed s binaries.LessEqual a b _ _ _ _ unsigned_is int_is = int_is
binary_typed s binaries.LessEqual a b _ _ _ _ unsigned_is char_is = int_is
binary_typed s binaries.LessEqual a b _ _ _ _ unsigned_is unsigned_is = int_is
binary_typed s binaries.Greater a b _ _ _ _ int_is int_is = int_is
binary_typed s binaries.Greater a b _ _ _ _ int_is char_is = int_is
binary_typed s binaries.Greater a b _ _ _ _ int_is unsigned_is = int_is
binary_typed s binaries.Greater a b _ _ _ _ char_is int_is = int_is
binary_typed s binaries.Greater a b _ _ _ _ char_is char_is = int_is
binary_typed s binaries.Greater a b _ _ _ _ char_is unsigned_is = int_is
binary_typed s binaries.Greater a b _ _ _ _ unsigned_is int_is = int_is
binary_typed s binaries.Greater a b _ _ _ _ unsigned_is char_is = int_is
binary_typed s binaries.Greater a b _ _ _ _ unsigned_is unsigned_is = int_is
binary_typed s binaries.GreaterEqual a b _ _ _ _ int_is int_is = int_is
binary_typed s binaries.GreaterEqual a b _ _ _ _ int_is char_is = int_is
binary_typed s binaries.GreaterEqual a b _ _ _ _ int_is unsigned_is = int_is
binary_typed s binaries.GreaterEqual a b _ _ _ _ char_is int_is = int_is
binary_typed s binaries.GreaterEqual a b _ _ _ _ char_is char_is = int_is
binary_typed s binaries.GreaterEqual a b _ _ _ _ char_is unsigned_is = int_is
binary_typed s binaries.GreaterEqual a b _ _ _ _ unsigned_is int_is = int_is
binary_typed s binaries.GreaterEqual a b _ _ _ _ unsigned_is char_is = int_is
binary_typed s binaries.GreaterEqual a b _ _ _ _ unsigned_is unsigned_is = int_is
binary_typed s binaries.Equal a b _ _ _ _ int_is int_is = int_is
binary_typed s binaries.Equal a b _ _ _ _ int_is char_is = int_is
binary_typed s binaries.Equal a b _ _ _ _ int_is unsigned_is = int_is
binary_typed s binaries.Equal a b _ _ _ _ char_is int_is = int_is
binary_typed s binaries.Equal a b _ _ _ _ char_is char_is = int_is
binary_typed s binaries.Equal a b _ _ _ _ char_is unsigned_is = int_is
binary_typed s binaries.Equal a b _ _ _ _ unsigned_is int_is = int_is
binary_typed s binaries.Equal a b _ _ _ _ unsigned_is char_is = int_is
binary_typed s binaries.Equal a b _ _ _ _ unsigned_is unsigned_is = int_is
binary_typed s binaries.NotEqual a b _ _ _ _ int_is int_is = int_is
binary_typed s binaries.NotEqual a b _ _ _ _ int_is char_is = int_is
binary_typed s binaries.NotEqual a b _ _ _ _ int_is unsigned_is = int_is
binary_typed s binaries.NotEqual a b _ _ _ _ char_is int_is = int_is
binary_typed s binaries.NotEqual a b _ _ _ _ char_is char_is = int_is
binary_typed s binaries.NotEqual a b _ _ _ _ char_is unsigned_is = int_is
binary_typed s binaries.NotEqual a b _ _ _ _ unsigned_is int_is = int_is
binary_typed s binaries.NotEqual a b _ _ _ _ unsigned_is char_is = int_is
binary_typed s binaries.NotEqual a b _ _ _ _ unsigned_is unsigned_is = int_is
binary_typed s binaries.BitAnd a b _ _ _ _ int_is int_is = int_is
binary_typed s binaries.BitAnd a b _ _ _ _ int_is char_is = int_is
binary_typed s binaries.BitAnd a b _ _ _ _ int_is unsigned_is = unsigned_is
binary_typed s binaries.BitAnd a b _ _ _ _ char_is int_is = int_is
binary_typed s binaries.BitAnd a b _ _ _ _ char_is char_is = int_is
binary_typed s binaries.BitAnd a b _ _ _ _ char_is unsigned_is = unsigned_is
binary_typed s binaries.BitAnd a b _ _ _ _ unsigned_is int_is = unsigned_is
binary_typed s binaries.BitAnd a b _ _ _ _ unsigned_is char_is = unsigned_is
binary_typed s binaries.BitAnd a b _ _ _ _ unsigned_is unsigned_is = unsigned_is
binary_typed s binaries.BitXor a b _ _ _ _ int_is int_is = int_is
binary_typed s binaries.BitXor a b _ _ _ _ int_is char_is = int_is
binary_typed s binaries.BitXor a b _ _ _ _ int_is unsigned_is = unsigned_is
binary_typed s binaries.BitXor a b _ _ _ _ char_is int_is = int_is
binary_typed s binaries.BitXor a b _ _ _ _ char_is char_is = int_is
binary_typed s binaries.BitXor a b _ _ _ _ char_is unsigned_is = unsigned_is
binary_typed s binaries.BitXor a b _ _ _ _ unsigned_is int_is = unsigned_is
binary_typed s binaries.BitXor a b _ _ _ _ unsigned_is char_is = unsigned_is
binary_typed s binaries.BitXor a b _ _ _ _ unsigned_is unsigned_is = unsigned_is
binary_typed s binaries.BitOr a b _ _ _ _ int_is int_is = int_is
binary_typed s binaries.BitOr a b _ _ _ _ int_is char_is = int_is
binary_typed s binaries.BitOr a b _ _ _ _ int_is unsigned_is = unsigned_is
binary_typed s binaries.BitOr a b _ _ _ _ char_is int_is = int_is
binary_typed s binaries.BitOr a b _ _ _ _ char_is char_is = int_is
binary_typed s binaries.BitOr a b _ _ _ _ char_is unsigned_is = unsigned_is
binary_typed s binaries.BitOr a b _ _ _ _ unsigned_is int_is = unsigned_is
binary_typed s binaries.BitOr a b _ _ _ _ unsigned_is char_is = unsigned_is
binary_typed s binaries.BitOr a b _ _ _ _ unsigned_is unsigned_is = unsigned_is
binary_typed s binaries.And a b _ _ _ _ int_is int_is = int_is
binary_typed s binaries.And a b _ _ _ _ int_is char_is = int_is
binary_typed s binaries.And a b _ _ _ _ int_is unsigned_is = int_is
binary_typed s binaries.And a b _ _ _ _ char_is int_is = int_is
binary_typed s binaries.And a b _ _ _ _ char_is char_is = int_is
binary_typed s binaries.And a b _ _ _ _ char_is unsigned_is = int_is
binary_typed s binaries.And a b _ _ _ _ unsigned_is int_is = int_is
binary_typed s binaries.And a b _ _ _ _ unsigned_is char_is = int_is
binary_typed s binaries.And a b _ _ _ _ unsigned_is unsigned_is = int_is
binary_typed s binaries.Or a b _ _ _ _ int_is int_is = int_is
binary_typed s binaries.Or a b _ _ _ _ int_is char_is = int_is
binary_typed s binaries.Or a b _ _ _ _ int_is unsigned_is = int_is
binary_typed s binaries.Or a b _ _ _ _ char_is int_is = int_is
binary_typed s binaries.Or a b _ _ _ _ char_is char_is = int_is
binary_typed s binaries.Or a b _ _ _ _ char_is unsigned_is = int_is
binary_typed s binaries.Or a b _ _ _ _ unsigned_is int_is = int_is
binary_typed s binaries.Or a b _ _ _ _ unsigned_is char_is = int_is
binary_typed s binaries.Or a b _ _ _ _ unsigned_is unsigned_is = int_is

unary_typed : (s : Structs) (a : ExprTree) (t : TypeTree) (u : Bool) → Integer t u → Typed (judged_type (Some (unary_judged s unaries.Plus a t (decayed t)))) u
unary_typed s a _ _ int_is = int_is
unary_typed s a _ _ char_is = int_is
unary_typed s a _ _ unsigned_is = unsigned_is

minus_typed : (s : Structs) (a : ExprTree) (t : TypeTree) (u : Bool) → Integer t u → Typed (judged_type (Some (unary_judged s unaries.Minus a t (decayed t)))) u
minus_typed s a _ _ int_is = int_is
minus_typed s a _ _ char_is = int_is
minus_typed s a _ _ unsigned_is = unsigned_is

complement_typed : (s : Structs) (a : ExprTree) (t : TypeTree) (u : Bool) → Integer t u → Typed (judged_type (Some (unary_judged s unaries.Complement a t (decayed t)))) u
complement_typed s a _ _ int_is = int_is
complement_typed s a _ _ char_is = int_is
complement_typed s a _ _ unsigned_is = unsigned_is

not_typed : (s : Structs) (a : ExprTree) (t : TypeTree) (u : Bool) → Integer t u → Typed (judged_type (Some (unary_judged s unaries.Not a t (decayed t)))) false
not_typed s a _ _ int_is = int_is
not_typed s a _ _ char_is = int_is
not_typed s a _ _ unsigned_is = int_is

unless_typed : (ts : List Test) (t : TypeTree) (u : Bool) → Integer t u → Typed (type_unless ts t) u
unless_typed ts t u h = go (breaks_one ts)
  where
    go : (b : Bool) → Typed (if b then None else Some t) u
    go true = tt
    go false = h

integer_typed : (to : TypeTree) → is_integer to ≡ true → Integer to (same_type to unsigned)
integer_typed int built = int_is
integer_typed unsigned built = unsigned_is
integer_typed char built = char_is
integer_typed void built = absurd (cc)
integer_typed (pointer p) built = absurd (cc)
integer_typed (array p n) built = absurd (cc)
integer_typed (struct k) built = absurd (cc)

-- a cast to this type, of a base that is `void` or isn't
abbrev cast_by : (is_void : Bool) → Option TypeTree → ExprTree → (u : TypeTree) → Judged
cast_by is_void o a u =
    judged ((keeps rules.UnknownTag (is_some o) ++ test rules.IncompleteType is_void) ++ test rules.CastType (is_some o && not (may_cast (type_or_void o) a u))) (type_or_void o)

cast_by_typed : (v : Bool) (o : Option TypeTree) (a : ExprTree) (u : TypeTree) → is_type_in is_integer o ≡ true → Typed (judged_type (Some (cast_by v o a u))) (is_type_in (λ t. same_type t unsigned) o)
cast_by_typed v None a u built = absurd (cc)
cast_by_typed v (Some to) a u built = unless_typed (cast_by v (Some to) a u).tests to (same_type to unsigned) (integer_typed to built)

cast_typed : (c : Context) (base : Base) (a : ExprTree) (t : TypeTree) (u : Bool) → is_integer_base c.type_names base ≡ true → Integer t u → Typed (judged_type (Some (cast_judged c (record { base = base; stars = 0 }) a (decayed t)))) (is_unsigned_base c.type_names base)
cast_typed c base a t u built h = subst (λ o. Typed (judged_type (Some (cast_by (is_void_base base) o a (decayed t)))) (is_unsigned_base c.type_names base)) (no_stars (base_type c base)) (cast_by_typed (is_void_base base) (base_type c base) a (decayed t) built)
  where
    no_stars : (o : Option TypeTree) → o ≡ starred o 0
    no_stars None = refl
    no_stars (Some t) = refl

-- ---- conditionals

conditional_typed : (d a b : ExprTree) (s t u : TypeTree) (p q r : Bool) → Integer s p → Integer t q → Integer u r → Typed (judged_type (Some (conditional_judged (decayed s) a (decayed t) b (decayed u)))) (q || r)
conditional_typed d a b _ _ _ _ _ _ int_is int_is int_is = int_is
conditional_typed d a b _ _ _ _ _ _ int_is int_is char_is = int_is
conditional_typed d a b _ _ _ _ _ _ int_is int_is unsigned_is = unsigned_is
conditional_typed d a b _ _ _ _ _ _ int_is char_is int_is = int_is
conditional_typed d a b _ _ _ _ _ _ int_is char_is char_is = int_is
conditional_typed d a b _ _ _ _ _ _ int_is char_is unsigned_is = unsigned_is
conditional_typed d a b _ _ _ _ _ _ int_is unsigned_is int_is = unsigned_is
conditional_typed d a b _ _ _ _ _ _ int_is unsigned_is char_is = unsigned_is
conditional_typed d a b _ _ _ _ _ _ int_is unsigned_is unsigned_is = unsigned_is
conditional_typed d a b _ _ _ _ _ _ char_is int_is int_is = int_is
conditional_typed d a b _ _ _ _ _ _ char_is int_is char_is = int_is
conditional_typed d a b _ _ _ _ _ _ char_is int_is unsigned_is = unsigned_is
conditional_typed d a b _ _ _ _ _ _ char_is char_is int_is = int_is
conditional_typed d a b _ _ _ _ _ _ char_is char_is char_is = int_is
conditional_typed d a b _ _ _ _ _ _ char_is char_is unsigned_is = unsigned_is
conditional_typed d a b _ _ _ _ _ _ char_is unsigned_is int_is = unsigned_is
conditional_typed d a b _ _ _ _ _ _ char_is unsigned_is char_is = unsigned_is
conditional_typed d a b _ _ _ _ _ _ char_is unsigned_is unsigned_is = unsigned_is
conditional_typed d a b _ _ _ _ _ _ unsigned_is int_is int_is = int_is
conditional_typed d a b _ _ _ _ _ _ unsigned_is int_is char_is = int_is
conditional_typed d a b _ _ _ _ _ _ unsigned_is int_is unsigned_is = unsigned_is
conditional_typed d a b _ _ _ _ _ _ unsigned_is char_is int_is = int_is
conditional_typed d a b _ _ _ _ _ _ unsigned_is char_is char_is = int_is
conditional_typed d a b _ _ _ _ _ _ unsigned_is char_is unsigned_is = unsigned_is
conditional_typed d a b _ _ _ _ _ _ unsigned_is unsigned_is int_is = unsigned_is
conditional_typed d a b _ _ _ _ _ _ unsigned_is unsigned_is char_is = unsigned_is
conditional_typed d a b _ _ _ _ _ _ unsigned_is unsigned_is unsigned_is = unsigned_is

-- ---- parts that have no type

with_one : (o : Option TypeTree) (p : Bool) (q : Bool) (judge : TypeTree → Judged) → Typed o p → ((t : TypeTree) → Integer t p → Typed (judged_type (Some (judge t))) q) → Typed (judged_type (and_then o (λ t. Some (judge t)))) q
with_one None p q judge h go = tt
with_one (Some t) p q judge h go = go t h

with_two : (o r : Option TypeTree) (p q w : Bool) (judge : TypeTree → TypeTree → Judged) → Typed o p → Typed r q → ((t u : TypeTree) → Integer t p → Integer u q → Typed (judged_type (Some (judge t u))) w) → Typed (judged_type (and_then o (λ t. and_then r (λ u. Some (judge t u))))) w
with_two None r p q w judge h g go = tt
with_two (Some t) None p q w judge h g go = tt
with_two (Some t) (Some u) p q w judge h g go = go t u h g

with_three : (o r x : Option TypeTree) (p q w v : Bool) (judge : TypeTree → TypeTree → TypeTree → Judged) → Typed o p → Typed r q → Typed x w → ((s t u : TypeTree) → Integer s p → Integer t q → Integer u w → Typed (judged_type (Some (judge s t u))) v) → Typed (judged_type (and_then o (λ s. and_then r (λ t. and_then x (λ u. Some (judge s t u)))))) v
with_three None r x p q w v judge h g k go = tt
with_three (Some s) None x p q w v judge h g k go = tt
with_three (Some s) (Some t) None p q w v judge h g k go = tt
with_three (Some s) (Some t) (Some u) p q w v judge h g k go = go s t u h g k

-- ---- expressions

starred_cast_typed : (c : Context) (base : Base) (stars : ℕ) (a : ExprTree) (t : TypeTree) (u : Bool) → (stars == 0) && is_integer_base c.type_names base ≡ true → Integer t u → Typed (judged_type (Some (cast_judged c (record { base = base; stars = stars }) a (decayed t)))) (is_unsigned_base c.type_names base)
starred_cast_typed c base stars a t u h i =
    subst (λ k. Typed (judged_type (Some (cast_judged c (record { base = base; stars = k }) a (decayed t)))) (is_unsigned_base c.type_names base))
    (sym ((Decides-eqb stars 0).0 (first_so (stars == 0) (is_integer_base c.type_names base) h)))
    (cast_typed c base a t u (second_so (stars == 0) (is_integer_base c.type_names base) h) i)

named_cast_typed : (c : Context) (n : TypeName) (a : ExprTree) (t : TypeTree) (u : Bool) → is_integer_name c.type_names n ≡ true → Integer t u → Typed (judged_type (Some (cast_judged c n a (decayed t)))) (is_unsigned_base c.type_names n.base)
named_cast_typed c n a t u h i = starred_cast_typed c n.base n.stars a t u h i

size_typed : (c : Context) (n : TypeName) → Typed (judged_type (Some (size_judged c n))) true
size_typed c n = unless_typed (size_judged c n).tests unsigned true unsigned_is

mutual
  pub constant_typed : (c : Context) (e : ExprTree) → is_built c.type_names e ≡ true → Typed (type_of c e) (is_unsigned c.type_names e)
  constant_typed c (expr node shape) built = shape_typed c shape built

  shape_typed : (c : Context) (s : ShapeTree) → is_built_shape c.type_names s ≡ true → Typed (judged_type (shape_judged c s)) (is_unsigned_shape c.type_names s)
  shape_typed c (trees.text bytes) built = absurd (cc)
  shape_typed c (trees.name x) built = absurd (cc)
  shape_typed c (trees.unary unaries.Address a) built = absurd (cc)
  shape_typed c (trees.unary unaries.Indirect a) built = absurd (cc)
  shape_typed c (trees.step operator a) built = absurd (cc)
  shape_typed c (trees.sizeof_expr a) built = absurd (cc)
  shape_typed c (trees.assign operator a b) built = absurd (cc)
  shape_typed c (trees.comma a b) built = absurd (cc)
  shape_typed c (trees.subscript a b) built = absurd (cc)
  shape_typed c (trees.member access a x) built = absurd (cc)
  shape_typed c (trees.call f es) built = absurd (cc)
  shape_typed c (trees.constant n true) built = unsigned_is
  shape_typed c (trees.constant n false) built = int_is
  shape_typed c (trees.unary unaries.Plus a) built = with_one (type_of c a) (is_unsigned c.type_names a) (is_unsigned c.type_names a) (λ t. unary_judged c.structs unaries.Plus a t (decayed t)) (constant_typed c a built) (λ t h. unary_typed c.structs a t (is_unsigned c.type_names a) h)
  shape_typed c (trees.unary unaries.Minus a) built = with_one (type_of c a) (is_unsigned c.type_names a) (is_unsigned c.type_names a) (λ t. unary_judged c.structs unaries.Minus a t (decayed t)) (constant_typed c a built) (λ t h. minus_typed c.structs a t (is_unsigned c.type_names a) h)
  shape_typed c (trees.unary unaries.Complement a) built = with_one (type_of c a) (is_unsigned c.type_names a) (is_unsigned c.type_names a) (λ t. unary_judged c.structs unaries.Complement a t (decayed t)) (constant_typed c a built) (λ t h. complement_typed c.structs a t (is_unsigned c.type_names a) h)
  shape_typed c (trees.unary unaries.Not a) built = with_one (type_of c a) (is_unsigned c.type_names a) false (λ t. unary_judged c.structs unaries.Not a t (decayed t)) (constant_typed c a built) (λ t h. not_typed c.structs a t (is_unsigned c.type_names a) h)
  shape_typed c (trees.cast n a) built = with_one (type_of c a) (is_unsigned c.type_names a) (is_unsigned_base c.type_names n.base) (λ t. cast_judged c n a (decayed t)) (constant_typed c a (second_so (is_integer_name c.type_names n) (is_built c.type_names a) built)) (λ t h. named_cast_typed c n a t (is_unsigned c.type_names a) (first_so (is_integer_name c.type_names n) (is_built c.type_names a) built) h)
  shape_typed c (trees.sizeof_type n) built = size_typed c n
  shape_typed c (trees.binary operator a b) built =
      with_two (type_of c a) (type_of c b) (is_unsigned c.type_names a) (is_unsigned c.type_names b) (is_unsigned_by operator (is_unsigned c.type_names a) (is_unsigned c.type_names b)) (λ t u. binary_judged c.structs operator a (decayed t) b (decayed u))
      (constant_typed c a (first_so (is_built c.type_names a) (is_built c.type_names b) built)) (constant_typed c b (second_so (is_built c.type_names a) (is_built c.type_names b) built))
      (λ t u h g. binary_typed c.structs operator a b t u (is_unsigned c.type_names a) (is_unsigned c.type_names b) h g)
  shape_typed c (trees.conditional d a b) built =
      with_three (type_of c d) (type_of c a) (type_of c b) (is_unsigned c.type_names d) (is_unsigned c.type_names a) (is_unsigned c.type_names b) (is_unsigned c.type_names a || is_unsigned c.type_names b) (λ s t u. conditional_judged (decayed s) a (decayed t) b (decayed u))
      (constant_typed c d (first_so (is_built c.type_names d) (is_built c.type_names a && is_built c.type_names b) built))
      (constant_typed c a (first_so (is_built c.type_names a) (is_built c.type_names b) (second_so (is_built c.type_names d) (is_built c.type_names a && is_built c.type_names b) built)))
      (constant_typed c b (second_so (is_built c.type_names a) (is_built c.type_names b) (second_so (is_built c.type_names d) (is_built c.type_names a && is_built c.type_names b) built)))
      (λ s t u h g k. conditional_typed d a b s t u (is_unsigned c.type_names d) (is_unsigned c.type_names a) (is_unsigned c.type_names b) h g k)
