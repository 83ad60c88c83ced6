-- The value after a substitution is the value in the state where each variable has its image's value.
use Rattle.std.proofs.Common.{◌≡◌, refl, ap, sym, ◌∙◌, true, false, ap₂}
use Rattle.std.specs.Prelude.{pos, List, [], ◌∷◌, Option, Some, None, Bool, if◌then◌else◌, ◌+ℤ◌, ◌-ℤ◌, ◌*ℤ◌, ◌&&◌, ◌||◌, int_le, int_lt}
use Rattle.std.specs.Prelude.{not as flip}
use Rattle.std.specs.Ordering.{int_eq}
use Rattle.qs_assert.specs.declared.variable.Var.{Var}
use Rattle.qs_assert.specs.Trees.{TermTree, number, variable, add, sub, mul, div, wrapu, wraps, bits, TermTrees, no_terms, term_and, CondTree, le, lt, eq, ne, not, and, or, CondTrees, no_conds, cond_and, AssertionTree, natural, infinity, cost, num, total, greatest, product, guard, choose, named, AssertionTrees, no_assertions, assertion_and}
use Rattle.qs_assert.specs.Values.{State, term_value, sum_of_terms, product_of_terms, quotient, wrapped_unsigned, wrapped_signed, bit_length, holds, all_hold, some_holds, finite, infinite, value, sum_of, greatest_of, product_of, plus, greater, times, natural_part}
use Rattle.qs_assert.specs.declared.images.Image.{Image}
use Rattle.qs_assert.specs.declared.images.Others.{Others}
use Rattle.qs_assert.specs.declared.images.Others.TheVariants.{Stay, AreMissing}
use Rattle.qs_assert.specs.Images.{Images, term_image, terms_image, cond_image, conds_image, assertion_image, assertions_image, with_images}
use Rattle.qs_assert.specs.declared.images.Substituted.TheVariants.{Whole, Missing}
use Rattle.qs_assert.specs.Simultaneous.{image_in, or_others, images, or_itself, terms_for, first_without, unless_missing, substituted}
use Rattle.qs_assert.specs.Substitution.{same_variable, one_image, in_assertion, with_value}

mutual
  pub term_agrees : (m : Images) (t : TermTree) (s : State) → term_value (term_image m t) s ≡ term_value t (with_images m s)
  term_agrees m (number k) s = refl
  term_agrees m (variable y) s = refl
  term_agrees m (add ts) s = sum_agrees m ts s
  term_agrees m (sub t v) s = ap₂ ◌-ℤ◌ (term_agrees m t s) (term_agrees m v s)
  term_agrees m (mul ts) s = product_agrees m ts s
  term_agrees m (div t k) s = ap (λ z. quotient z k) (term_agrees m t s)
  term_agrees m (wrapu t) s = ap wrapped_unsigned (term_agrees m t s)
  term_agrees m (wraps t) s = ap wrapped_signed (term_agrees m t s)
  term_agrees m (bits t) s = ap (λ z. pos (bit_length z)) (term_agrees m t s)

  pub sum_agrees : (m : Images) (ts : TermTrees) (s : State) → sum_of_terms (terms_image m ts) s ≡ sum_of_terms ts (with_images m s)
  sum_agrees m no_terms s = refl
  sum_agrees m (term_and t ts) s = ap₂ ◌+ℤ◌ (term_agrees m t s) (sum_agrees m ts s)

  pub product_agrees : (m : Images) (ts : TermTrees) (s : State) → product_of_terms (terms_image m ts) s ≡ product_of_terms ts (with_images m s)
  product_agrees m no_terms s = refl
  product_agrees m (term_and t ts) s = ap₂ ◌*ℤ◌ (term_agrees m t s) (product_agrees m ts s)

mutual
  pub cond_agrees : (m : Images) (c : CondTree) (s : State) → holds (cond_image m c) s ≡ holds c (with_images m s)
  cond_agrees m (le t v) s = ap₂ int_le (term_agrees m t s) (term_agrees m v s)
  cond_agrees m (lt t v) s = ap₂ int_lt (term_agrees m t s) (term_agrees m v s)
  cond_agrees m (eq t v) s = ap₂ int_eq (term_agrees m t s) (term_agrees m v s)
  cond_agrees m (ne t v) s = ap flip (ap₂ int_eq (term_agrees m t s) (term_agrees m v s))
  cond_agrees m (not c) s = ap flip (cond_agrees m c s)
  cond_agrees m (and cs) s = all_agree m cs s
  cond_agrees m (or cs) s = some_agree m cs s

  pub all_agree : (m : Images) (cs : CondTrees) (s : State) → all_hold (conds_image m cs) s ≡ all_hold cs (with_images m s)
  all_agree m no_conds s = refl
  all_agree m (cond_and c cs) s = ap₂ (λ a b. a && b) (cond_agrees m c s) (all_agree m cs s)

  pub some_agree : (m : Images) (cs : CondTrees) (s : State) → some_holds (conds_image m cs) s ≡ some_holds cs (with_images m s)
  some_agree m no_conds s = refl
  some_agree m (cond_and c cs) s = ap₂ (λ a b. a || b) (cond_agrees m c s) (some_agree m cs s)

mutual
  pub value_agrees : (m : Images) (a : AssertionTree) (s : State) → value (assertion_image m a) s ≡ value a (with_images m s)
  value_agrees m (natural n) s = refl
  value_agrees m infinity s = refl
  value_agrees m (cost f) s = refl
  value_agrees m (num t) s = ap (λ z. finite (natural_part z)) (term_agrees m t s)
  value_agrees m (total parts) s = sum_of_agrees m parts s
  value_agrees m (greatest parts) s = greatest_of_agrees m parts s
  value_agrees m (product parts) s = product_of_agrees m parts s
  value_agrees m (guard c a) s = ap₂ (λ b v. if b then v else infinite) (cond_agrees m c s) (value_agrees m a s)
  value_agrees m (choose c a b) s =
      (λ i. if cond_agrees m c s i then value_agrees m a s i else value_agrees m b s i)
  value_agrees m (named n) s = refl

  pub sum_of_agrees : (m : Images) (parts : AssertionTrees) (s : State) → sum_of (assertions_image m parts) s ≡ sum_of parts (with_images m s)
  sum_of_agrees m no_assertions s = refl
  sum_of_agrees m (assertion_and a parts) s = ap₂ plus (value_agrees m a s) (sum_of_agrees m parts s)

  pub greatest_of_agrees : (m : Images) (parts : AssertionTrees) (s : State) → greatest_of (assertions_image m parts) s ≡ greatest_of parts (with_images m s)
  greatest_of_agrees m no_assertions s = refl
  greatest_of_agrees m (assertion_and a parts) s = ap₂ greater (value_agrees m a s) (greatest_of_agrees m parts s)

  pub product_of_agrees : (m : Images) (parts : AssertionTrees) (s : State) → product_of (assertions_image m parts) s ≡ product_of parts (with_images m s)
  product_of_agrees m no_assertions s = refl
  product_of_agrees m (assertion_and a parts) s = ap₂ times (value_agrees m a s) (product_of_agrees m parts s)

-- ---- images of a list

one_at : (b : Bool) (u v : TermTree) (s : State) → term_value (if b then u else v) s ≡ (if b then term_value u s else term_value v s)
one_at true u v s = refl
one_at false u v s = refl

set_to : (x : Var) (u : TermTree) (s : State) → with_images (one_image x u) s ≡ with_value x (term_value u s) s
set_to x u s = λ i. record s { at = λ y. one_at (same_variable y x) u (variable y) s i }

one_term : (b : Bool) (u : TermTree) (y : Var) → or_itself (if b then Some u else None) y ≡ (if b then u else variable y)
one_term true u y = refl
one_term false u y = refl

-- a list of one image
pub one_listed : (x : Var) (u : TermTree) → terms_for (image_in (record { variable = x; term = u } ∷ [])) ≡ one_image x u
one_listed x u = λ i y. one_term (same_variable y x) u y i

pub one_replaced : (list : List Image) (x : Var) (u : TermTree) (a b : AssertionTree) → list ≡ record { variable = x; term = u } ∷ [] → b ≡ assertion_image (terms_for (image_in list)) a → b ≡ in_assertion x u a
one_replaced list x u a b e h =
    h ∙ (ap (λ (l : List Image). assertion_image (terms_for (image_in l)) a) e ∙ ap (λ m. assertion_image m a) (one_listed x u))

pub value_after : (x : Var) (u : TermTree) (a b : AssertionTree) → b ≡ in_assertion x u a → (s : State) → value b s ≡ value a (with_value x (term_value u s) s)
value_after x u a b e s = ap (λ c. value c s) e ∙ (value_agrees (one_image x u) a s ∙ ap (λ t. value a t) (set_to x u s))

others_are_kept : (o : Option TermTree) (others : Others) (x : Var) → or_itself (or_others o others x) x ≡ or_itself o x
others_are_kept (Some t) others x = refl
others_are_kept None Stay x = refl
others_are_kept None AreMissing x = refl

-- which variables have an image changes nothing of the terms
pub same_terms_for : (list : List Image) (others : Others) → terms_for (images list others) ≡ terms_for (image_in list)
same_terms_for list others = λ i x. others_are_kept (image_in list x) others x i

-- ---- the answers of a substitution

pub all_there : (list : List Image) (others : Others) (a b : AssertionTree) → b ≡ assertion_image (terms_for (image_in list)) a → None ≡ first_without (images list others) a → Whole b ≡ substituted (images list others) a
all_there list others a b e h =
    ap (λ (x : AssertionTree). Whole x) (e ∙ ap (λ m. assertion_image m a) (sym (same_terms_for list others)))
    ∙ ap (λ o. unless_missing o (assertion_image (terms_for (images list others)) a)) h

pub one_missing : (list : List Image) (others : Others) (a : AssertionTree) (x : Var) → Some x ≡ first_without (images list others) a → Missing x ≡ substituted (images list others) a
one_missing list others a x h = ap (λ o. unless_missing o (assertion_image (terms_for (images list others)) a)) h
