-- The value of a constant expression depends on nothing but the structs and the names of types.
use Rattle.std.proofs.Common.{◌≡◌, ℕ, zero, suc, ◌<◌, true, Option, Some, None, is_some, refl, sym, ap, arith, if◌then◌else◌}
use Rattle.qs_syntax.specs.declared.types.TypeName.{TypeName}
use Rattle.qs_syntax.specs.Trees.{ExprTree, expr, ShapeTree}
use Rattle.qs_syntax.specs.Trees as trees
use Rattle.qs_types.specs.declared.env.Env.{Env}
use Rattle.qs_types.specs.Types.{TypeTree, pointer}
use Rattle.qs_types.specs.EnvOf.{env_tree}
use Rattle.qs_types.specs.Layout.{and_then, size_within}
use Rattle.qs_types.specs.Contexts.{Context, TypeNames, context_with, base_in, named_type, pointers}
use Rattle.qs_types.specs.Constants.{value_of, shape_value, converted, combined, decides, is_true, truth, is_unsigned, unary_value}
use Rattle.qs_types.specs.KnownTypes.{is_known_base, converted_known, named_size}

-- ---- names of types

pointer_from : (o : Option TypeTree) (stars : ℕ) (f : TypeTree → Option ℕ) (n : ℕ) → ((t : TypeTree) → f (pointer t) ≡ Some n) → is_some o ≡ true → 0 < stars
    → Some n ≡ and_then (and_then o (λ t. Some (pointers stars t))) f
pointer_from None stars f n at e h = absurd (cc)
pointer_from (Some t) zero f n at e h = absurd (omega arith)
pointer_from (Some t) (suc stars) f n at e h = sym (at (pointers stars t))

pub pointer_converted : (names : TypeNames) (name : TypeName) (n : ℕ) → is_known_base names name.base ≡ true → 0 < name.stars → Some n ≡ converted_known names name n
pointer_converted names name n known h = pointer_from (base_in names name.base) name.stars (λ t. Some (converted t n)) n (λ t. refl) known h

pub pointer_size : (env : Env) (names : TypeNames) (name : TypeName) → is_known_base names name.base ≡ true → 0 < name.stars → Some 4 ≡ named_size env names name
pointer_size env names name known h = pointer_from (base_in names name.base) name.stars (size_within (env_tree env)) 4 (λ t. refl) known h

-- ---- values

mutual
  pub value_known : (c : Context) (e : ExprTree) → value_of c e ≡ value_of (context_with c.structs c.type_names) e
  value_known c (expr node shape) = shape_known c shape

  shape_known : (c : Context) (s : ShapeTree) → shape_value c s ≡ shape_value (context_with c.structs c.type_names) s
  shape_known c (trees.constant n u) = refl
  shape_known c (trees.text bytes) = refl
  shape_known c (trees.name x) = refl
  shape_known c (trees.unary operator a) = ap (λ o. and_then o (unary_value operator)) (value_known c a)
  shape_known c (trees.step operator a) = refl
  shape_known c (trees.cast n a) = ap (λ v. and_then (named_type c n) (λ t. and_then v (λ x. Some (converted t x)))) (value_known c a)
  shape_known c (trees.sizeof_type n) = refl
  shape_known c (trees.sizeof_expr a) = refl
  shape_known c (trees.binary operator a b) = λ i.
      and_then (value_known c a i) (λ x. if decides operator x then Some (truth (is_true x)) else
      and_then (value_known c b i) (combined operator (is_unsigned c.type_names a) (is_unsigned c.type_names b) x))
  shape_known c (trees.assign operator a b) = refl
  shape_known c (trees.conditional d a b) = λ i. and_then (value_known c d i) (λ x. if is_true x then value_known c a i else value_known c b i)
  shape_known c (trees.comma a b) = refl
  shape_known c (trees.subscript a b) = refl
  shape_known c (trees.member access a x) = refl
  shape_known c (trees.call f es) = refl
