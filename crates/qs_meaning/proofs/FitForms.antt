-- Forms whose values, and whose effects, fit.
use Rattle.std.proofs.Common.{◌≡◌, ◌⊎◌, inl, inr, Bool, true, false, ◌&&◌, ◌||◌, Option, Some, is_some, refl, sym, ap, ◌∙◌, subst}
use Rattle.std.proofs.lemmas.Bool.{and_from, or_cases}
use Rattle.std.specs.Cmp.{first_so, second_so}
use Rattle.std.proofs.lemmas.Option.{same_Some}
use Rattle.qs_syntax.specs.Trees.{ExprTree, expr}
use Rattle.qs_syntax.specs.Trees as trees
use Rattle.qs_memory.specs.Scalars.{same_scalar, is_type}
use Rattle.qs_memory.proofs.ScalarLaws.{scalar_same, same_self, same_as}
use Rattle.qs_memory.specs.declared.scalar.Scalar.{Scalar}
use Rattle.qs_memory.specs.declared.scalar.Scalar.TheVariants as scalars
use Rattle.qs_calls.specs.declared.callee.Callee.{Callee}
use Rattle.qs_calls.specs.Starts.{Signature, Interface, signature_of}
use Rattle.qs_types.specs.Types.{TypeTree, int, unsigned, char, void, pointer, array, struct, is_integer, is_pointer, is_void, is_scalar}
use Rattle.qs_types.specs.Conversions.{decayed}
use Rattle.qs_types.specs.Expressions.{is_null_constant, both_integers, same_pointers, is_assignable, alike_pointers}
use Rattle.qs_meaning.specs.Typed.{Expr, called, Lvalue, variable, object, Arguments, Assignment, copy, Function}
use Rattle.qs_meaning.specs.Conversions.{scalar_of, conversion}
use Rattle.qs_meaning.specs.Forms.{Form, lvalue, result, call, assignment, step, struct_assignment, comma, TypedExpr, lvalue_of, address_in, address_of, value_in, value_of, effect_of, type_in_use, value_in_use}
use Rattle.qs_meaning.specs.Names.{Scope}
use Rattle.qs_meaning.specs.Expressions.{typed}
use Rattle.qs_meaning.specs.Units.{result_scalar}
use Rattle.qs_meaning.specs.Fits.{type_after, assigned_type, conversion_fits, is_null, taken, becomes, result_fits, expr_fits, lvalue_fits, arguments_fit, assignment_fits, effect_fits}
use Rattle.qs_meaning.specs.Fits as fitting
use Rattle.qs_meaning.proofs.Options.{never, nothing}
use Rattle.qs_meaning.proofs.FitConversions.{scalar_decayed, Integer, an_int, an_unsigned, a_char, Pointing, a_pointer, integer, pointing, scalar_kind, same_pointing, may_convert, conversion_taken, conversion_type, integers_convert, pointers_convert, null_converts, Alike, integers, pointers, right_null, left_null, Added, numbers, front, back, Subtracted, two_numbers, from_pointer, two_pointers}

-- ---- what fits

-- an expression that fits, with values of this type
pub record Has (i : Interface) (g : Function) (x : Expr) (s : Scalar) : Type 0 where
  pub fits : expr_fits i g x ≡ true
  pub type : fitting.type_of x ≡ s

pub record CallFits (i : Interface) (g : Function) (gives : Option Scalar) (callee : Callee) (given : Arguments) : Type 0 where
  pub signature : Signature
  pub is : signature_of i callee ≡ Some signature
  pub arguments : arguments_fit i g signature.parameters given ≡ true
  pub result : signature.result_type ≡ gives

pub record AssignmentFits (i : Interface) (g : Function) (a : Assignment) (s : Scalar) : Type 0 where
  pub fits : assignment_fits i g a ≡ true
  pub type : assigned_type a ≡ s

-- a form that is an expression of this type
abbrev pub FormFits : Interface → Function → TypeTree → Form → Type 0
FormFits i g t (lvalue l) = lvalue_fits i g (scalar_of t) l ≡ true
FormFits i g t (result x) = Has i g x (scalar_of t)
FormFits i g t (call f given) = CallFits i g (result_scalar (Some t)) f given
FormFits i g t (assignment a) = AssignmentFits i g a (scalar_of t)
FormFits i g t (step a before) = AssignmentFits i g a (scalar_of t) × Has i g before (scalar_of t)
FormFits i g t (struct_assignment size alignment to from) =
    (effect_fits i g (copy size alignment to from) ≡ true) × Has i g to scalars.Pointer × (scalar_of t ≡ scalars.Pointer)
FormFits i g t (comma a u b) = (effect_fits i g a ≡ true) × FormFits i g u b × (t ≡ decayed u)

-- ---- types with values

pub void_decayed : (t : TypeTree) → is_void (decayed t) ≡ is_void t
void_decayed int = refl
void_decayed unsigned = refl
void_decayed char = refl
void_decayed void = refl
void_decayed (pointer t) = refl
void_decayed (array t n) = refl
void_decayed (struct k) = refl

pub integer_solid : {t : TypeTree} → Integer t → is_void t ≡ false
integer_solid an_int = refl
integer_solid an_unsigned = refl
integer_solid a_char = refl

pub pointing_solid : {t : TypeTree} → Pointing t → is_void t ≡ false
pointing_solid (a_pointer t) = refl

pub scalar_solid : (t : TypeTree) → is_scalar t ≡ true → is_void t ≡ false
scalar_solid t e = go (scalar_kind t e)
  where
    go : Integer t ⊎ Pointing t → is_void t ≡ false
    go (inl h) = integer_solid h
    go (inr h) = pointing_solid h

pub result_of : (t : TypeTree) → is_void t ≡ false → result_scalar (Some t) ≡ Some (scalar_of t)
result_of int e = refl
result_of unsigned e = refl
result_of char e = refl
result_of void e = never (sym e)
result_of (pointer t) e = refl
result_of (array t n) e = refl
result_of (struct k) e = refl

module _ (i : Interface) (g : Function) where
  -- ---- objects

  pub object_has : (p : Expr) (s : Scalar) → lvalue_fits i g s (object p) ≡ true → Has i g p scalars.Pointer
  object_has p s h = record { fits = first_so _ _ h; type = scalar_same _ _ (second_so (expr_fits i g p) _ h) }

  pub pointer_object : (p : Expr) (s : Scalar) → Has i g p scalars.Pointer → lvalue_fits i g s (object p) ≡ true
  pointer_object p s h = and_from _ _ h.fits (same_as _ _ h.type)

  address_has : (l : Lvalue) (p : Expr) (s : Scalar) → address_in l ≡ Some p → lvalue_fits i g s l ≡ true → Has i g p scalars.Pointer
  address_has (variable x) p s e h = nothing p e
  address_has (object q) p s e h = subst (λ z. Has i g z scalars.Pointer) (same_Some _ _ e) (object_has q s h)

  pub lvalue_there : (t : TypeTree) (form : Form) (l : Lvalue) → lvalue_of form ≡ Some l → FormFits i g t form → lvalue_fits i g (scalar_of t) l ≡ true
  lvalue_there t (lvalue k) l e h = subst (λ z. lvalue_fits i g (scalar_of t) z ≡ true) (same_Some _ _ e) h
  lvalue_there t (result x) l e h = nothing l e
  lvalue_there t (call f given) l e h = nothing l e
  lvalue_there t (assignment a) l e h = nothing l e
  lvalue_there t (step a before) l e h = nothing l e
  lvalue_there t (struct_assignment size alignment to from) l e h = nothing l e
  lvalue_there t (comma a u b) l e h = nothing l e

  -- the address of an object
  pub address_there : (t : TypeTree) (form : Form) (p : Expr) → address_of form ≡ Some p → FormFits i g t form → Has i g p scalars.Pointer
  address_there t (lvalue l) p e h = address_has l p (scalar_of t) e h
  address_there t (result x) p e h = nothing p e
  address_there t (call f given) p e h = nothing p e
  address_there t (assignment a) p e h = nothing p e
  address_there t (step a before) p e h = nothing p e
  address_there t (struct_assignment size alignment to from) p e h = nothing p e
  address_there t (comma a u b) p e h = nothing p e

  -- ---- values

  value_in_has : (t : TypeTree) (l : Lvalue) → lvalue_fits i g (scalar_of t) l ≡ true → is_void t ≡ false → Has i g (value_in t l) (scalar_of t)
  value_in_has int l h v = record { fits = h; type = refl }
  value_in_has unsigned l h v = record { fits = h; type = refl }
  value_in_has char l h v = record { fits = h; type = refl }
  value_in_has void l h v = never (sym v)
  value_in_has (pointer t) l h v = record { fits = h; type = refl }
  value_in_has (array t n) (variable x) h v = record { fits = h; type = refl }
  value_in_has (array t n) (object p) h v = object_has p scalars.Pointer h
  value_in_has (struct k) (variable x) h v = record { fits = h; type = refl }
  value_in_has (struct k) (object p) h v = object_has p scalars.Pointer h

  called_has : (s : Scalar) (f : Callee) (given : Arguments) → CallFits i g (Some s) f given → Has i g (called s f given) s
  called_has s f given h = record {
    fits = and_from _ _ (subst (λ o. arguments_fit i g (taken o) given ≡ true) (sym h.is) h.arguments)
        (subst (λ o. result_fits o s ≡ true) (sym h.is) (subst (λ o. is_type o s ≡ true) (sym h.result) (same_self s)));
    type = refl;
  }

  value_has : (t : TypeTree) (form : Form) → FormFits i g t form → is_void t ≡ false → Has i g (value_of t form) (scalar_of t)
  value_has t (lvalue l) h v = value_in_has t l h v
  value_has t (result x) h v = h
  value_has t (call f given) h v = called_has (scalar_of t) f given (subst (λ o. CallFits i g o f given) (result_of t v) h)
  value_has t (assignment a) h v = record { fits = h.fits; type = h.type }
  value_has t (step a before) h v = h.1
  value_has t (struct_assignment size alignment to from) h v = record { fits = and_from _ _ h.0 h.1.fits; type = h.1.type ∙ sym h.2 }
  value_has t (comma a u b) h v =
      let k = value_has u b h.1 (sym (void_decayed u) ∙ ap is_void (sym h.2) ∙ v) in
      record { fits = and_from _ _ h.0 k.fits; type = k.type ∙ (sym (scalar_decayed u) ∙ ap scalar_of (sym h.2)) }

  pub in_use : (a : TypedExpr) → FormFits i g a.type a.form → is_void (type_in_use a) ≡ false → Has i g (value_in_use a) (scalar_of (type_in_use a))
  in_use a h v =
      let k = value_has a.type a.form h (sym (void_decayed a.type) ∙ v) in
      record { fits = k.fits; type = k.type ∙ sym (scalar_decayed a.type) }

  -- ---- effects

  value_in_there : (t : TypeTree) (l : Lvalue) → lvalue_fits i g (scalar_of t) l ≡ true → expr_fits i g (value_in t l) ≡ true
  value_in_there int l h = h
  value_in_there unsigned l h = h
  value_in_there char l h = h
  value_in_there void (variable x) h = h
  value_in_there void (object p) h = first_so _ _ h
  value_in_there (pointer t) l h = h
  value_in_there (array t n) (variable x) h = h
  value_in_there (array t n) (object p) h = first_so _ _ h
  value_in_there (struct k) (variable x) h = h
  value_in_there (struct k) (object p) h = first_so _ _ h

  pub effect_there : (t : TypeTree) (form : Form) → FormFits i g t form → effect_fits i g (effect_of t form) ≡ true
  effect_there t (lvalue l) h = value_in_there t l h
  effect_there t (result x) h = h.fits
  effect_there t (call f given) h =
      and_from _ _ (subst (λ o. is_some o ≡ true) (sym h.is) refl) (subst (λ o. arguments_fit i g (taken o) given ≡ true) (sym h.is) h.arguments)
  effect_there t (assignment a) h = h.fits
  effect_there t (step a before) h = h.0.fits
  effect_there t (struct_assignment size alignment to from) h = h.0
  effect_there t (comma a u b) h = and_from _ _ h.0 (effect_there u b h.1)

  -- ---- a value that is converted

  pub conversion_there : (x : Expr) (t u : TypeTree) → Has i g x (scalar_of t) → may_convert t u (is_null x) ≡ true
      → conversion_fits (conversion t u) (fitting.type_of x) (is_null x) ≡ true
  conversion_there x t u h c = subst (λ z. conversion_fits (conversion t u) z (is_null x) ≡ true) (sym h.type) (conversion_taken t u (is_null x) c)

  pub becomes_there : (x : Expr) (t u : TypeTree) → Has i g x (scalar_of t) → may_convert t u (is_null x) ≡ true → becomes (conversion t u) x (scalar_of u) ≡ true
  becomes_there x t u h c =
      and_from _ _ (conversion_there x t u h c)
      (subst (λ z. same_scalar (type_after (conversion t u) z) (scalar_of u) ≡ true) (sym h.type) (same_as _ _ (conversion_type t u)))

-- ---- null constants

-- a null constant is a 0 of an integer type
pub record IsNull (n : Bool) (u : TypeTree) : Type 0 where
  pub is : n ≡ true
  pub type : Integer u

pub null_value : (s : Scope) (e : ExprTree) (a : TypedExpr) → typed s e ≡ Some a → is_null_constant e ≡ true → IsNull (is_null (value_in_use a)) (type_in_use a)
null_value s (expr node (trees.constant n true)) a e h =
    subst (λ (z : TypedExpr). IsNull (is_null (value_in_use z)) (type_in_use z)) (same_Some _ a e) (record { is = h; type = an_unsigned })
null_value s (expr node (trees.constant n false)) a e h =
    subst (λ (z : TypedExpr). IsNull (is_null (value_in_use z)) (type_in_use z)) (same_Some _ a e) (record { is = h; type = an_int })
null_value s (expr node (trees.text bytes)) a e h = never h
null_value s (expr node (trees.name x)) a e h = never h
null_value s (expr node (trees.unary operator b)) a e h = never h
null_value s (expr node (trees.step operator b)) a e h = never h
null_value s (expr node (trees.cast n b)) a e h = never h
null_value s (expr node (trees.sizeof_type n)) a e h = never h
null_value s (expr node (trees.sizeof_expr b)) a e h = never h
null_value s (expr node (trees.binary operator b c)) a e h = never h
null_value s (expr node (trees.assign operator b c)) a e h = never h
null_value s (expr node (trees.conditional d b c)) a e h = never h
null_value s (expr node (trees.comma b c)) a e h = never h
null_value s (expr node (trees.subscript b c)) a e h = never h
null_value s (expr node (trees.member access b x)) a e h = never h
null_value s (expr node (trees.call f es)) a e h = never h

-- what is known of an expression that may be a null constant
abbrev pub MaybeNull : ExprTree → Bool → TypeTree → Type 0
MaybeNull e n u = is_null_constant e ≡ true → IsNull n u

-- ---- what the rules on pairs of types say

-- a value of type u that may be assigned to type t
pub record Assignable (t u : TypeTree) (n : Bool) : Type 0 where
  pub converts : may_convert u t n ≡ true
  pub solid : is_void u ≡ false

pub integers_assignable : {t u : TypeTree} (n : Bool) → Integer t → Integer u → Assignable t u n
integers_assignable n i j = record { converts = integers_convert n j i; solid = integer_solid j }

pub pointers_assignable : {t u : TypeTree} (n : Bool) → Pointing t → Pointing u → Assignable t u n
pointers_assignable n p q = record { converts = pointers_convert n q p; solid = pointing_solid q }

pub null_assignable : {t u : TypeTree} (n : Bool) → Pointing t → IsNull n u → Assignable t u n
null_assignable n p k = record { converts = null_converts n k.type p k.is; solid = integer_solid k.type }

pub assignable : (t : TypeTree) (e : ExprTree) (u : TypeTree) (n : Bool) → MaybeNull e n u → is_assignable t e u ≡ true → Assignable t u n
assignable t e u n null h = go (or_cases (both_integers t u) _ h)
  where
    pointers : (same_pointers t u ≡ true) ⊎ ((is_pointer t && is_null_constant e) ≡ true) → Assignable t u n
    pointers (inl k) = pointers_assignable n (pointing t (first_so _ _ k)) (same_pointing t u (first_so _ _ k) (second_so (is_pointer t) _ k))
    pointers (inr k) = null_assignable n (pointing t (first_so _ _ k)) (null (second_so (is_pointer t) _ k))

    go : (both_integers t u ≡ true) ⊎ ((same_pointers t u || (is_pointer t && is_null_constant e)) ≡ true) → Assignable t u n
    go (inl k) = integers_assignable n (integer t (first_so _ _ k)) (integer u (second_so (is_integer t) _ k))
    go (inr k) = pointers (or_cases (same_pointers t u) _ k)

pub alike : (a : ExprTree) (t : TypeTree) (b : ExprTree) (u : TypeTree) (n m : Bool) → MaybeNull a n t → MaybeNull b m u → (both_integers t u || alike_pointers a t b u) ≡ true
    → Alike t u n m
alike a t b u n m first second h = go (or_cases (both_integers t u) _ h)
  where
    nulls : ((is_pointer t && is_null_constant b) ≡ true) ⊎ ((is_null_constant a && is_pointer u) ≡ true) → Alike t u n m
    nulls (inl k) = let z = second (second_so (is_pointer t) _ k) in right_null (pointing t (first_so _ _ k)) z.type z.is
    nulls (inr k) = let z = first (first_so _ _ k) in left_null z.type (pointing u (second_so (is_null_constant a) _ k)) z.is

    two : (same_pointers t u ≡ true) ⊎ (((is_pointer t && is_null_constant b) || (is_null_constant a && is_pointer u)) ≡ true) → Alike t u n m
    two (inl k) = pointers (pointing t (first_so _ _ k)) (same_pointing t u (first_so _ _ k) (second_so (is_pointer t) _ k))
    two (inr k) = nulls (or_cases _ _ k)

    go : (both_integers t u ≡ true) ⊎ (alike_pointers a t b u ≡ true) → Alike t u n m
    go (inl k) = integers (integer t (first_so _ _ k)) (integer u (second_so (is_integer t) _ k))
    go (inr k) = two (or_cases (same_pointers t u) _ k)

pub alike_first : {t u : TypeTree} {n m : Bool} → Alike t u n m → is_void t ≡ false
alike_first (integers i j) = integer_solid i
alike_first (pointers p q) = pointing_solid p
alike_first (right_null p j e) = pointing_solid p
alike_first (left_null i q e) = integer_solid i

pub alike_second : {t u : TypeTree} {n m : Bool} → Alike t u n m → is_void u ≡ false
alike_second (integers i j) = integer_solid j
alike_second (pointers p q) = pointing_solid q
alike_second (right_null p j e) = integer_solid j
alike_second (left_null i q e) = pointing_solid q

pub added_solid : {t u : TypeTree} → Added t u → (is_void t ≡ false) × (is_void u ≡ false)
added_solid (numbers i j) = (integer_solid i, integer_solid j)
added_solid (front p j) = (pointing_solid p, integer_solid j)
added_solid (back i p) = (integer_solid i, pointing_solid p)

pub subtracted_solid : {t u : TypeTree} → Subtracted t u → (is_void t ≡ false) × (is_void u ≡ false)
subtracted_solid (two_numbers i j) = (integer_solid i, integer_solid j)
subtracted_solid (from_pointer p j) = (pointing_solid p, integer_solid j)
subtracted_solid (two_pointers p q) = (pointing_solid p, pointing_solid q)
