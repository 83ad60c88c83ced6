-- A constant expression has its value wherever the structs and the names of types are that it has where it stands.
use Rattle.std.proofs.Common.{◌≡◌, ℕ, Bool, true, false, not, ◌&&◌, ◌||◌, Option, Some, None, is_some, refl, sym, ap, ◌∙◌, if◌then◌else◌}
use Rattle.qs_syntax_vocabulary.specs.declared.operators.UnaryOperator.TheVariants as unaries
use Rattle.qs_syntax_vocabulary.specs.declared.operators.BinaryOperator.{BinaryOperator}
use Rattle.qs_meaning.proofs.Options.{never}
use Rattle.qs_syntax.specs.declared.types.Base.{Base}
use Rattle.qs_syntax.specs.declared.types.TypeName.{TypeName}
use Rattle.qs_syntax.specs.Trees.{ExprTree, expr, ShapeTree}
use Rattle.qs_syntax.specs.Trees as trees
use Rattle.qs_types.specs.Types.{TypeTree, unsigned, is_integer, same_type}
use Rattle.qs_types.specs.Layout.{and_then, layout_of, size_within}
use Rattle.qs_types.specs.Contexts.{Context, base_type, is_type_in, named_type, pointers, starred}
use Rattle.qs_types.specs.Rules.{type_unless}
use Rattle.qs_types.specs.Expressions.{Judged, type_of, shape_judged, cast_judged}
use Rattle.qs_types.specs.Conversions.{decayed}
use Rattle.qs_types.specs.Constants.{is_built, is_unsigned, is_unsigned_shape, is_unsigned_base, is_unsigned_by, converted, truth, is_true, combined, decides, unary_value, value_of, shape_value, constant_of}
use Rattle.qs_typed_nodes.specs.Agrees.{Keeps}
use Rattle.qs_typed_nodes.proofs.KeptAgreement.{nothing, then_kept, is_kept, equal_kept, choice_kept}
use Rattle.qs_typed.proofs.LaterStructs.{layout_kept, size_within_kept}
use Rattle.qs_typed.proofs.UnitContexts.{GoesTo}

-- structs that are laid out stay so, and names of types what they stand for
pub record TypesStay (c d : Context) : Type 0 where
  pub layouts : (k : ℕ) → Keeps (layout_of c.structs k) (layout_of d.structs k)
  pub bases : (b : Base) → Keeps (base_type c b) (base_type d b)

pub types_stay : (c d : Context) → GoesTo c d → TypesStay c d
types_stay c d g = record { layouts = layout_kept c.structs d.structs g.structs; bases = g.bases }

named_kept : (c d : Context) → TypesStay c d → (n : TypeName) → Keeps (named_type c n) (named_type d n)
named_kept c d g n =
    then_kept (base_type c n.base) (base_type d n.base) (λ t. Some (pointers n.stars t)) (λ t. Some (pointers n.stars t)) (g.bases n.base)
    (λ t. is_kept (Some (pointers n.stars t)))

-- ---- the parts of an expression that has a type have types

abbrev judged_type : Option Judged → Option TypeTree
judged_type o = and_then o (λ j. type_unless j.tests j.type)

abbrev IsTyped : Context → ExprTree → Type 0
IsTyped c e = is_some (type_of c e) ≡ true

one_typed : (o : Option TypeTree) (judge : TypeTree → Judged) → is_some (judged_type (and_then o (λ t. Some (judge t)))) ≡ true → is_some o ≡ true
one_typed None judge h = never h
one_typed (Some t) judge h = refl

two_typed : (o p : Option TypeTree) (judge : TypeTree → TypeTree → Judged) → is_some (judged_type (and_then o (λ t. and_then p (λ u. Some (judge t u))))) ≡ true
    → (is_some o ≡ true) × (is_some p ≡ true)
two_typed None p judge h = never h
two_typed (Some t) None judge h = never h
two_typed (Some t) (Some u) judge h = (refl, refl)

three_typed : (o p q : Option TypeTree) (judge : TypeTree → TypeTree → TypeTree → Judged)
    → is_some (judged_type (and_then o (λ s. and_then p (λ t. and_then q (λ u. Some (judge s t u)))))) ≡ true
    → (is_some o ≡ true) × ((is_some p ≡ true) × (is_some q ≡ true))
three_typed None p q judge h = never h
three_typed (Some s) None q judge h = never h
three_typed (Some s) (Some t) None judge h = never h
three_typed (Some s) (Some t) (Some u) judge h = (refl, (refl, refl))

-- ---- names of types whose types are `unsigned`

known_by : (b rest : Bool) (t : TypeTree) → is_some (if not b || rest then None else Some t) ≡ true → b ≡ true
known_by true rest t h = refl
known_by false rest t h = never h

base_known : (o : Option TypeTree) (stars : ℕ) → is_some (starred o stars) ≡ true → is_some o ≡ true
base_known None stars h = never h
base_known (Some t) stars h = refl

cast_known : (c : Context) (n : TypeName) (a : ExprTree) (o : Option TypeTree) → is_some (judged_type (and_then o (λ t. Some (cast_judged c n a (decayed t))))) ≡ true
    → is_some (base_type c n.base) ≡ true
cast_known c n a None h = never h
cast_known c n a (Some t) h = base_known (base_type c n.base) n.stars (known_by (is_some (named_type c n)) _ _ h)

unsigned_base : (c d : Context) → TypesStay c d → (b : Base) → is_some (base_type c b) ≡ true → is_unsigned_base c.type_names b ≡ is_unsigned_base d.type_names b
unsigned_base c d g b h = go (base_type c b) refl h
  where
    go : (o : Option TypeTree) → base_type c b ≡ o → is_some o ≡ true → is_unsigned_base c.type_names b ≡ is_unsigned_base d.type_names b
    go None e h = never h
    go (Some t) e h = ap (is_type_in (λ t. same_type t unsigned)) (e ∙ sym (g.bases b t e))

mutual
  unsigned_kept : (c d : Context) → TypesStay c d → (e : ExprTree) → IsTyped c e → is_unsigned c.type_names e ≡ is_unsigned d.type_names e
  unsigned_kept c d g (expr node shape) h = shape_unsigned c d g shape h

  shape_unsigned : (c d : Context) → TypesStay c d → (shape : ShapeTree) → is_some (judged_type (shape_judged c shape)) ≡ true
      → is_unsigned_shape c.type_names shape ≡ is_unsigned_shape d.type_names shape
  shape_unsigned c d g (trees.constant n u) h = refl
  shape_unsigned c d g (trees.text bytes) h = refl
  shape_unsigned c d g (trees.name x) h = refl
  shape_unsigned c d g (trees.unary unaries.Address a) h = refl
  shape_unsigned c d g (trees.unary unaries.Indirect a) h = refl
  shape_unsigned c d g (trees.unary unaries.Plus a) h = unsigned_kept c d g a (one_typed (type_of c a) _ h)
  shape_unsigned c d g (trees.unary unaries.Minus a) h = unsigned_kept c d g a (one_typed (type_of c a) _ h)
  shape_unsigned c d g (trees.unary unaries.Complement a) h = unsigned_kept c d g a (one_typed (type_of c a) _ h)
  shape_unsigned c d g (trees.unary unaries.Not a) h = refl
  shape_unsigned c d g (trees.step operator a) h = refl
  shape_unsigned c d g (trees.cast n a) h = unsigned_base c d g n.base (cast_known c n a (type_of c a) h)
  shape_unsigned c d g (trees.sizeof_type n) h = refl
  shape_unsigned c d g (trees.sizeof_expr a) h = refl
  shape_unsigned c d g (trees.binary operator a b) h =
      let p = two_typed (type_of c a) (type_of c b) _ h in λ i. is_unsigned_by operator (unsigned_kept c d g a p.0 i) (unsigned_kept c d g b p.1 i)
  shape_unsigned c d g (trees.assign operator a b) h = refl
  shape_unsigned c d g (trees.conditional z a b) h =
      let p = three_typed (type_of c z) (type_of c a) (type_of c b) _ h in λ i. unsigned_kept c d g a p.1.0 i || unsigned_kept c d g b p.1.1 i
  shape_unsigned c d g (trees.comma a b) h = refl
  shape_unsigned c d g (trees.subscript a b) h = refl
  shape_unsigned c d g (trees.member access a x) h = refl
  shape_unsigned c d g (trees.call f es) h = refl

-- ---- values

combined_kept : (operator : BinaryOperator) (p q r s : Bool) (x y : ℕ) → p ≡ r → q ≡ s → Keeps (combined operator p q x y) (combined operator r s x y)
combined_kept operator p q r s x y e f = equal_kept (combined operator p q x y) (combined operator r s x y) (λ i. combined operator (sym e i) (sym f i) x y)

mutual
  pub value_kept : (c d : Context) → TypesStay c d → (e : ExprTree) → IsTyped c e → Keeps (value_of c e) (value_of d e)
  value_kept c d g (expr node shape) h = shape_kept c d g shape h

  shape_kept : (c d : Context) → TypesStay c d → (shape : ShapeTree) → is_some (judged_type (shape_judged c shape)) ≡ true → Keeps (shape_value c shape) (shape_value d shape)
  shape_kept c d g (trees.constant n u) h = λ x e. e
  shape_kept c d g (trees.text bytes) h = λ x e. e
  shape_kept c d g (trees.name x) h = λ x e. e
  shape_kept c d g (trees.unary operator a) h =
      then_kept (value_of c a) (value_of d a) (unary_value operator) (unary_value operator) (value_kept c d g a (one_typed (type_of c a) _ h)) (λ x. is_kept (unary_value operator x))
  shape_kept c d g (trees.step operator a) h = λ x e. e
  shape_kept c d g (trees.cast n a) h =
      then_kept (named_type c n) (named_type d n) (λ t. and_then (value_of c a) (λ x. Some (converted t x))) (λ t. and_then (value_of d a) (λ x. Some (converted t x))) (named_kept c d g n)
      (λ t. then_kept (value_of c a) (value_of d a) (λ x. Some (converted t x)) (λ x. Some (converted t x)) (value_kept c d g a (one_typed (type_of c a) _ h)) (λ x. is_kept (Some (converted t x))))
  shape_kept c d g (trees.sizeof_type n) h =
      then_kept (named_type c n) (named_type d n) (size_within c.structs) (size_within d.structs) (named_kept c d g n) (size_within_kept c.structs d.structs g.layouts)
  shape_kept c d g (trees.sizeof_expr a) h = λ x e. e
  shape_kept c d g (trees.binary operator a b) h =
      let p = two_typed (type_of c a) (type_of c b) _ h in
      then_kept (value_of c a) (value_of d a) _ _ (value_kept c d g a p.0)
      (λ x. choice_kept (decides operator x) (Some (truth (is_true x))) (Some (truth (is_true x))) _ _ (is_kept (Some (truth (is_true x))))
      (then_kept (value_of c b) (value_of d b) (combined operator (is_unsigned c.type_names a) (is_unsigned c.type_names b) x) (combined operator (is_unsigned d.type_names a) (is_unsigned d.type_names b) x)
      (value_kept c d g b p.1)
      (λ y. combined_kept operator (is_unsigned c.type_names a) (is_unsigned c.type_names b) (is_unsigned d.type_names a) (is_unsigned d.type_names b) x y (unsigned_kept c d g a p.0) (unsigned_kept c d g b p.1))))
  shape_kept c d g (trees.assign operator a b) h = λ x e. e
  shape_kept c d g (trees.conditional a b z) h =
      let p = three_typed (type_of c a) (type_of c b) (type_of c z) _ h in
      then_kept (value_of c a) (value_of d a) _ _ (value_kept c d g a p.0) (λ x. choice_kept (is_true x) _ _ _ _ (value_kept c d g b p.1.0) (value_kept c d g z p.1.1))
  shape_kept c d g (trees.comma a b) h = λ x e. e
  shape_kept c d g (trees.subscript a b) h = λ x e. e
  shape_kept c d g (trees.member access a x) h = λ y e. e
  shape_kept c d g (trees.call f es) h = λ x e. e

pub constant_kept : (c d : Context) → TypesStay c d → (e : ExprTree) → Keeps (constant_of c e) (value_of d e)
constant_kept c d g e = go (type_of c e) (λ h. value_kept c d g e h)
  where
    by : (b : Bool) → Keeps (value_of c e) (value_of d e) → Keeps (if b then value_of c e else None) (value_of d e)
    by true h = h
    by false h = λ x p. nothing x p

    go : (o : Option TypeTree) → (is_some o ≡ true → Keeps (value_of c e) (value_of d e)) → Keeps (and_then o (λ t. if is_integer t && is_built c.type_names e then value_of c e else None)) (value_of d e)
    go None h = λ x p. nothing x p
    go (Some t) h = by (is_integer t && is_built c.type_names e) (h refl)
