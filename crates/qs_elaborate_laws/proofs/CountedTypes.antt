-- What a rule that isn't broken says of the types of operands: none is a struct.
use Rattle.std.proofs.Common.{◌≡◌, ◌⊎◌, inl, inr, Bool, true, false, not, ◌&&◌, ◌||◌, List, Option, Some, None, refl, sym, ap, ◌∙◌, subst, if◌then◌else◌}
use Rattle.std.specs.Cmp.{first_so, second_so}
use Rattle.std.proofs.lemmas.Bool.{or_cases}
use Rattle.std.proofs.lemmas.Option.{same_Some}
use Rattle.qs_syntax_vocabulary.specs.declared.operators.BinaryOperator.{BinaryOperator}
use Rattle.qs_syntax_vocabulary.specs.declared.operators.BinaryOperator.TheVariants as binaries
use Rattle.qs_syntax.specs.Trees.{ExprTree, expr}
use Rattle.qs_syntax.specs.Trees as trees
use Rattle.qs_memory.proofs.Options.{followed}
use Rattle.qs_types.specs.Types.{TypeTree, int, unsigned, char, void, pointer, array, struct, is_integer, is_pointer, is_struct, is_scalar, same_type, Structs}
use Rattle.qs_types.specs.Layout.{and_then}
use Rattle.qs_types.specs.Conversions.{decayed}
use Rattle.qs_types.specs.Rules.{Test, breaks_one, type_unless}
use Rattle.qs_types.specs.Contexts.{Context}
use Rattle.qs_types.specs.Expressions.{is_null_constant, both_integers, same_pointers, is_object_pointer, is_assignable, alike_pointers, may_cast, may_add, may_subtract, may_order, may_equal, Judged, binary_judged, type_of}
use Rattle.qs_meaning.specs.Forms.{TypedExpr}
use Rattle.qs_meaning.specs.Names.{Scope}
use Rattle.qs_meaning.specs.Expressions.{typed, form_of}
use Rattle.qs_meaning.proofs.Options.{never, nothing}

-- ---- tests that aren't broken

pub kept : (b : Bool) → (not b || false) ≡ false → b ≡ true
kept true e = refl
kept false e = never (sym e)

pub first_unbroken : (x y : Bool) → (x || y) ≡ false → x ≡ false
first_unbroken true y e = never (sym e)
first_unbroken false y e = refl

pub second_unbroken : (x y : Bool) → (x || y) ≡ false → y ≡ false
second_unbroken true y e = never (sym e)
second_unbroken false y e = e

pub record Unless (ts : List Test) (t u : TypeTree) : Type 0 where
  pub unbroken : breaks_one ts ≡ false
  pub type : t ≡ u

pub unless : (ts : List Test) (t u : TypeTree) → type_unless ts t ≡ Some u → Unless ts t u
unless ts t u e = go (breaks_one ts) refl e
  where
    go : (b : Bool) → breaks_one ts ≡ b → (if b then None else Some t) ≡ Some u → Unless ts t u
    go true h e = nothing u e
    go false h e = record { unbroken = h; type = same_Some t u e }

-- the tests of the same judgement
pub tests_kept : (k j : Judged) → Some k ≡ Some j → breaks_one j.tests ≡ false → breaks_one k.tests ≡ false
tests_kept k j e h = subst (λ (z : Judged). breaks_one z.tests ≡ false) (sym (same_Some k j e)) h

-- what goes on from an option that is known
pub gave_at : {A B : Type 0} (o : Option A) (x : A) (go : A → Option B) (y : B) → o ≡ Some x → and_then o go ≡ Some y → go x ≡ Some y
gave_at o x go y e f = sym (ap (λ o. and_then o go) e) ∙ f

pub typed_type : (s : Scope) (e : ExprTree) (a : TypedExpr) → typed s e ≡ Some a → type_of s.context e ≡ Some a.type
typed_type s (expr node shape) a h =
    let t = followed (type_of s.context (expr node shape)) _ a h in
    let f = followed (form_of s node shape) _ a t.then in
    t.first ∙ ap (λ (z : TypedExpr). Some z.type) (same_Some _ a f.then)

-- ---- types that aren't structs

-- a type whose values are used
abbrev pub HasValue : TypeTree → Type 0
HasValue t = is_struct t ≡ false

abbrev pub HaveValues : TypeTree → TypeTree → Type 0
HaveValues t u = HasValue t × HasValue u

pub integer_value : (t : TypeTree) → is_integer t ≡ true → HasValue t
integer_value int e = refl
integer_value unsigned e = refl
integer_value char e = refl
integer_value void e = refl
integer_value (pointer t) e = refl
integer_value (array t n) e = refl
integer_value (struct k) e = never e

-- an integer is used as it is
pub integer_used : (t : TypeTree) → is_integer t ≡ true → HasValue (decayed t)
integer_used int e = refl
integer_used unsigned e = refl
integer_used char e = refl
integer_used void e = refl
integer_used (pointer t) e = refl
integer_used (array t n) e = refl
integer_used (struct k) e = never e

pub pointer_value : (t : TypeTree) → is_pointer t ≡ true → HasValue t
pointer_value int e = refl
pointer_value unsigned e = refl
pointer_value char e = refl
pointer_value void e = refl
pointer_value (pointer t) e = refl
pointer_value (array t n) e = refl
pointer_value (struct k) e = never e

pub scalar_value : (t : TypeTree) → is_scalar t ≡ true → HasValue t
scalar_value t e = go (or_cases (is_integer t) _ e)
  where
    go : (is_integer t ≡ true) ⊎ (is_pointer t ≡ true) → HasValue t
    go (inl h) = integer_value t h
    go (inr h) = pointer_value t h

same_pointer : (t u : TypeTree) → is_pointer t ≡ true → same_type t u ≡ true → HasValue u
same_pointer t int e f = refl
same_pointer t unsigned e f = refl
same_pointer t char e f = refl
same_pointer t void e f = refl
same_pointer t (pointer u) e f = refl
same_pointer t (array u n) e f = refl
same_pointer int (struct k) e f = never e
same_pointer unsigned (struct k) e f = never e
same_pointer char (struct k) e f = never e
same_pointer void (struct k) e f = never e
same_pointer (pointer t) (struct k) e f = never f
same_pointer (array t n) (struct k) e f = never e
same_pointer (struct j) (struct k) e f = never e

integers_values : (t u : TypeTree) → both_integers t u ≡ true → HaveValues t u
integers_values t u h = (integer_value t (first_so _ _ h), integer_value u (second_so (is_integer t) _ h))

pointers_values : (t u : TypeTree) → same_pointers t u ≡ true → HaveValues t u
pointers_values t u h = (pointer_value t (first_so _ _ h), same_pointer t u (first_so _ _ h) (second_so (is_pointer t) _ h))

-- ---- null constants

abbrev pub NullHasValue : ExprTree → TypeTree → Type 0
NullHasValue e t = is_null_constant e ≡ true → HasValue t

pub null_value : (c : Context) (e : ExprTree) (t : TypeTree) → type_of c e ≡ Some t → NullHasValue e (decayed t)
null_value c (expr node (trees.constant n true)) t e h = subst (λ z. HasValue (decayed z)) (same_Some _ t e) refl
null_value c (expr node (trees.constant n false)) t e h = subst (λ z. HasValue (decayed z)) (same_Some _ t e) refl
null_value c (expr node (trees.text bytes)) t e h = never h
null_value c (expr node (trees.name x)) t e h = never h
null_value c (expr node (trees.unary operator a)) t e h = never h
null_value c (expr node (trees.step operator a)) t e h = never h
null_value c (expr node (trees.cast n a)) t e h = never h
null_value c (expr node (trees.sizeof_type n)) t e h = never h
null_value c (expr node (trees.sizeof_expr a)) t e h = never h
null_value c (expr node (trees.binary operator a b)) t e h = never h
null_value c (expr node (trees.assign operator a b)) t e h = never h
null_value c (expr node (trees.conditional d a b)) t e h = never h
null_value c (expr node (trees.comma a b)) t e h = never h
null_value c (expr node (trees.subscript a b)) t e h = never h
null_value c (expr node (trees.member access a x)) t e h = never h
null_value c (expr node (trees.call f es)) t e h = never h

-- ---- pairs of types

pub assignable_value : (t : TypeTree) (e : ExprTree) (u : TypeTree) → NullHasValue e u → is_assignable t e u ≡ true → HasValue u
assignable_value t e u null h = go (or_cases (both_integers t u) _ h)
  where
    pointers : (same_pointers t u ≡ true) ⊎ ((is_pointer t && is_null_constant e) ≡ true) → HasValue u
    pointers (inl k) = (pointers_values t u k).1
    pointers (inr k) = null (second_so (is_pointer t) _ k)

    go : (both_integers t u ≡ true) ⊎ ((same_pointers t u || (is_pointer t && is_null_constant e)) ≡ true) → HasValue u
    go (inl k) = (integers_values t u k).1
    go (inr k) = pointers (or_cases (same_pointers t u) _ k)

pub cast_value : (t : TypeTree) (e : ExprTree) (u : TypeTree) → NullHasValue e u → may_cast t e u ≡ true → HasValue u
cast_value t e u null h = go (or_cases (both_integers t u) _ h)
  where
    pointers : (is_pointer u ≡ true) ⊎ (is_null_constant e ≡ true) → HasValue u
    pointers (inl k) = pointer_value u k
    pointers (inr k) = null k

    go : (both_integers t u ≡ true) ⊎ ((is_pointer t && (is_pointer u || is_null_constant e)) ≡ true) → HasValue u
    go (inl k) = (integers_values t u k).1
    go (inr k) = pointers (or_cases (is_pointer u) _ (second_so (is_pointer t) _ k))

pub alike_values : (a : ExprTree) (t : TypeTree) (b : ExprTree) (u : TypeTree) → NullHasValue a t → NullHasValue b u
    → (both_integers t u || alike_pointers a t b u) ≡ true → HaveValues t u
alike_values a t b u first second h = go (or_cases (both_integers t u) _ h)
  where
    nulls : ((is_pointer t && is_null_constant b) ≡ true) ⊎ ((is_null_constant a && is_pointer u) ≡ true) → HaveValues t u
    nulls (inl k) = (pointer_value t (first_so _ _ k), second (second_so (is_pointer t) _ k))
    nulls (inr k) = (first (first_so _ _ k), pointer_value u (second_so (is_null_constant a) _ k))

    two : (same_pointers t u ≡ true) ⊎ (((is_pointer t && is_null_constant b) || (is_null_constant a && is_pointer u)) ≡ true) → HaveValues t u
    two (inl k) = pointers_values t u k
    two (inr k) = nulls (or_cases _ _ k)

    go : (both_integers t u ≡ true) ⊎ (alike_pointers a t b u ≡ true) → HaveValues t u
    go (inl k) = integers_values t u k
    go (inr k) = two (or_cases (same_pointers t u) _ k)

pub sum_values : (structs : Structs) (t u : TypeTree) → may_add structs t u ≡ true → HaveValues t u
sum_values structs t u h = go (or_cases (both_integers t u) _ h)
  where
    two : ((is_object_pointer structs t && is_integer u) ≡ true) ⊎ ((is_integer t && is_object_pointer structs u) ≡ true) → HaveValues t u
    two (inl k) = (pointer_value t (first_so _ _ (first_so _ _ k)), integer_value u (second_so (is_object_pointer structs t) _ k))
    two (inr k) = (integer_value t (first_so _ _ k), pointer_value u (first_so _ _ (second_so (is_integer t) _ k)))

    go : (both_integers t u ≡ true) ⊎ (((is_object_pointer structs t && is_integer u) || (is_integer t && is_object_pointer structs u)) ≡ true) → HaveValues t u
    go (inl k) = integers_values t u k
    go (inr k) = two (or_cases (is_object_pointer structs t && is_integer u) _ k)

difference_values : (structs : Structs) (t u : TypeTree) → may_subtract structs t u ≡ true → HaveValues t u
difference_values structs t u h = go (or_cases (both_integers t u) _ h)
  where
    two : is_pointer t ≡ true → (is_integer u ≡ true) ⊎ (same_type t u ≡ true) → HaveValues t u
    two p (inl k) = (pointer_value t p, integer_value u k)
    two p (inr k) = (pointer_value t p, same_pointer t u p k)

    go : (both_integers t u ≡ true) ⊎ ((is_object_pointer structs t && (is_integer u || same_type t u)) ≡ true) → HaveValues t u
    go (inl k) = integers_values t u k
    go (inr k) = two (first_so _ _ (first_so _ _ k)) (or_cases (is_integer u) _ (second_so (is_object_pointer structs t) _ k))

order_values : (t u : TypeTree) → may_order t u ≡ true → HaveValues t u
order_values t u h = go (or_cases (both_integers t u) _ h)
  where
    go : (both_integers t u ≡ true) ⊎ (same_pointers t u ≡ true) → HaveValues t u
    go (inl k) = integers_values t u k
    go (inr k) = pointers_values t u k

-- the operands of an operator
pub operand_values : (structs : Structs) (operator : BinaryOperator) (x : ExprTree) (t : TypeTree) (y : ExprTree) (u : TypeTree) → NullHasValue x t → NullHasValue y u
    → breaks_one (binary_judged structs operator x t y u).tests ≡ false → HaveValues t u
operand_values structs operator x t y u first second = go operator
  where
    numbers : (not (both_integers t u) || false) ≡ false → HaveValues t u
    numbers r = integers_values t u (kept _ r)

    tested : (not (is_scalar t && is_scalar u) || false) ≡ false → HaveValues t u
    tested r = (scalar_value t (first_so _ _ (kept _ r)), scalar_value u (second_so (is_scalar t) _ (kept _ r)))

    orders : (not (may_order t u) || false) ≡ false → HaveValues t u
    orders r = order_values t u (kept _ r)

    equals : (not (may_equal x t y u) || false) ≡ false → HaveValues t u
    equals r = alike_values x t y u first second (kept _ r)

    go : (operator : BinaryOperator) → breaks_one (binary_judged structs operator x t y u).tests ≡ false → HaveValues t u
    go binaries.Multiply r = numbers r
    go binaries.Divide r = numbers r
    go binaries.Remainder r = numbers r
    go binaries.Add r = sum_values structs t u (kept _ r)
    go binaries.Subtract r = difference_values structs t u (kept _ r)
    go binaries.ShiftLeft r = numbers r
    go binaries.ShiftRight r = numbers r
    go binaries.Less r = orders r
    go binaries.LessEqual r = orders r
    go binaries.Greater r = orders r
    go binaries.GreaterEqual r = orders r
    go binaries.Equal r = equals r
    go binaries.NotEqual r = equals r
    go binaries.BitAnd r = numbers r
    go binaries.BitXor r = numbers r
    go binaries.BitOr r = numbers r
    go binaries.And r = tested r
    go binaries.Or r = tested r
