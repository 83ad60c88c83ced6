-- The variables among the nodes of a tree, and values where variables have other numbers.
use Rattle.std.proofs.Common.{◌≡◌, refl, ap, sym, ◌∙◌, Bool, true, false, List, [], ◌∷◌, ◌++◌, map, ap₂}
use Rattle.std.specs.Prelude.{ℤ, pos, if◌then◌else◌, ◌+ℤ◌, ◌-ℤ◌, ◌*ℤ◌, ◌&&◌, ◌||◌, int_le, int_lt, Option, is_none}
use Rattle.std.specs.Prelude.{not as flip}
use Rattle.std.specs.Ordering.{int_eq}
use Rattle.std.specs.List.{list_any, flat_map, find}
use Rattle.std.proofs.lemmas.Grind.{flat_map-append}
use Rattle.std.proofs.lemmas.List.{map-append}
use Rattle.std.proofs.lemmas.Bool.{or_right, or_left, or_parts}
use Rattle.qs_assert.specs.declared.variable.Var.{Var}
use Rattle.qs_assert.specs.declared.node.TermNode.{TermNode}
use Rattle.qs_assert.specs.declared.node.TermNode.TheVariants.{Number, Variable, Add, Sub, Mul, Div, WrapUnsigned, WrapSigned, Bits}
use Rattle.qs_assert.specs.declared.node.Node.{Node}
use Rattle.qs_assert.specs.declared.node.Node.TheVariants.{Term, Condition, Assertion}
use Rattle.qs_assert.specs.Trees.{TermTree, number, variable, add, sub, mul, div, wrapu, wraps, bits, TermTrees, no_terms, term_and, CondTree, le, lt, eq, ne, not, and, or, CondTrees, no_conds, cond_and, AssertionTree, natural, infinity, cost, num, total, greatest, product, guard, choose, named, AssertionTrees, no_assertions, assertion_and}
use Rattle.qs_assert.specs.Listing.{term_nodes, terms_nodes, inner_term, cond_nodes, conds_nodes, assertion_nodes, assertions_nodes}
use Rattle.qs_assert.specs.Substitution.{same_variable, with_value}
use Rattle.qs_assert.specs.Values.{State, term_value, sum_of_terms, product_of_terms, quotient, wrapped_unsigned, wrapped_signed, bit_length, holds, all_hold, some_holds, finite, infinite, value, sum_of, greatest_of, product_of, plus, greater, times, natural_part}
use Rattle.qs_assert.specs.Variables.{term_variables, terms_variables, cond_variables, conds_variables, variables, all_variables, mentions, head_variables, node_variables, head_mentions, node_mentions, IsOfItsVariables}
use Rattle.qs_assert.specs.Simultaneous.{first_without}
use Rattle.qs_assert.proofs.SamenessLaws.{variable_self}

-- ---- the variables among nodes

abbrev pub listed : List Node → List Var
listed = flat_map node_variables

split : (xs ys : List Node) (a b : List Var) → listed xs ≡ a → listed ys ≡ b → listed (xs ++ ys) ≡ a ++ b
split xs ys a b p q = flat_map-append node_variables xs ys ∙ (λ i. p i ++ q i)

apart : (xs ys : List TermNode) (a b : List Var) → listed (map Term xs) ≡ a → listed (map Term ys) ≡ b → listed (map Term (xs ++ ys)) ≡ a ++ b
apart xs ys a b p q = ap listed (map-append Term xs ys) ∙ split (map Term xs) (map Term ys) a b p q

mutual
  pub term_listed : (t : TermTree) → listed (inner_term t) ≡ term_variables t
  term_listed (number k) = refl
  term_listed (variable x) = refl
  term_listed (add ts) = terms_listed ts
  term_listed (sub t u) = apart (term_nodes t) (term_nodes u) (term_variables t) (term_variables u) (term_listed t) (term_listed u)
  term_listed (mul ts) = terms_listed ts
  term_listed (div t k) = term_listed t
  term_listed (wrapu t) = term_listed t
  term_listed (wraps t) = term_listed t
  term_listed (bits t) = term_listed t

  pub terms_listed : (ts : TermTrees) → listed (map Term (terms_nodes ts)) ≡ terms_variables ts
  terms_listed no_terms = refl
  terms_listed (term_and t ts) = apart (term_nodes t) (terms_nodes ts) (term_variables t) (terms_variables ts) (term_listed t) (terms_listed ts)

two_listed : (t u : TermTree) → listed (inner_term t ++ inner_term u) ≡ term_variables t ++ term_variables u
two_listed t u = split (inner_term t) (inner_term u) (term_variables t) (term_variables u) (term_listed t) (term_listed u)

mutual
  pub cond_listed : (c : CondTree) → listed (cond_nodes c) ≡ cond_variables c
  cond_listed (le t u) = two_listed t u
  cond_listed (lt t u) = two_listed t u
  cond_listed (eq t u) = two_listed t u
  cond_listed (ne t u) = two_listed t u
  cond_listed (not c) = cond_listed c
  cond_listed (and cs) = conds_listed cs
  cond_listed (or cs) = conds_listed cs

  pub conds_listed : (cs : CondTrees) → listed (conds_nodes cs) ≡ conds_variables cs
  conds_listed no_conds = refl
  conds_listed (cond_and c cs) = split (cond_nodes c) (conds_nodes cs) (cond_variables c) (conds_variables cs) (cond_listed c) (conds_listed cs)

mutual
  pub assertion_listed : (a : AssertionTree) → listed (assertion_nodes a) ≡ variables a
  assertion_listed (natural n) = refl
  assertion_listed infinity = refl
  assertion_listed (cost f) = refl
  assertion_listed (num t) = term_listed t
  assertion_listed (total parts) = assertions_listed parts
  assertion_listed (greatest parts) = assertions_listed parts
  assertion_listed (product parts) = assertions_listed parts
  assertion_listed (guard c a) = split (cond_nodes c) (assertion_nodes a) (cond_variables c) (variables a) (cond_listed c) (assertion_listed a)
  assertion_listed (choose c a b) =
      split (cond_nodes c) (assertion_nodes a ++ assertion_nodes b) (cond_variables c) (variables a ++ variables b) (cond_listed c)
      (split (assertion_nodes a) (assertion_nodes b) (variables a) (variables b) (assertion_listed a) (assertion_listed b))
  assertion_listed (named n) = refl

  pub assertions_listed : (parts : AssertionTrees) → listed (assertions_nodes parts) ≡ all_variables parts
  assertions_listed no_assertions = refl
  assertions_listed (assertion_and a parts) = split (assertion_nodes a) (assertions_nodes parts) (variables a) (all_variables parts) (assertion_listed a) (assertions_listed parts)

-- ---- the same numbers for these variables

abbrev pub AgreeOn : List Var → (Var → ℤ) → (Var → ℤ) → Type 0
AgreeOn [] f g = Unit {0}
AgreeOn (x ∷ xs) f g = (f x ≡ g x) × AgreeOn xs f g

front : (xs ys : List Var) (f g : Var → ℤ) → AgreeOn (xs ++ ys) f g → AgreeOn xs f g
front [] ys f g h = tt
front (x ∷ xs) ys f g h = (h.0, front xs ys f g h.1)

behind : (xs ys : List Var) (f g : Var → ℤ) → AgreeOn (xs ++ ys) f g → AgreeOn ys f g
behind [] ys f g h = h
behind (x ∷ xs) ys f g h = behind xs ys f g h.1

abbrev seeing : State → (Var → ℤ) → State
seeing s f = record s { at = f }

mutual
  pub term_same : (t : TermTree) (s : State) (f g : Var → ℤ) → AgreeOn (term_variables t) f g → term_value t (seeing s f) ≡ term_value t (seeing s g)
  term_same (number k) s f g h = refl
  term_same (variable x) s f g h = h.0
  term_same (add ts) s f g h = sum_same ts s f g h
  term_same (sub t u) s f g h =
      ap₂ ◌-ℤ◌ (term_same t s f g (front (term_variables t) (term_variables u) f g h)) (term_same u s f g (behind (term_variables t) (term_variables u) f g h))
  term_same (mul ts) s f g h = product_same ts s f g h
  term_same (div t k) s f g h = ap (λ z. quotient z k) (term_same t s f g h)
  term_same (wrapu t) s f g h = ap wrapped_unsigned (term_same t s f g h)
  term_same (wraps t) s f g h = ap wrapped_signed (term_same t s f g h)
  term_same (bits t) s f g h = ap (λ z. pos (bit_length z)) (term_same t s f g h)

  sum_same : (ts : TermTrees) (s : State) (f g : Var → ℤ) → AgreeOn (terms_variables ts) f g → sum_of_terms ts (seeing s f) ≡ sum_of_terms ts (seeing s g)
  sum_same no_terms s f g h = refl
  sum_same (term_and t ts) s f g h =
      ap₂ ◌+ℤ◌ (term_same t s f g (front (term_variables t) (terms_variables ts) f g h)) (sum_same ts s f g (behind (term_variables t) (terms_variables ts) f g h))

  product_same : (ts : TermTrees) (s : State) (f g : Var → ℤ) → AgreeOn (terms_variables ts) f g → product_of_terms ts (seeing s f) ≡ product_of_terms ts (seeing s g)
  product_same no_terms s f g h = refl
  product_same (term_and t ts) s f g h =
      ap₂ ◌*ℤ◌ (term_same t s f g (front (term_variables t) (terms_variables ts) f g h)) (product_same ts s f g (behind (term_variables t) (terms_variables ts) f g h))

two_same : {A : Type 0} (r : ℤ → ℤ → A) (t u : TermTree) (s : State) (f g : Var → ℤ) → AgreeOn (term_variables t ++ term_variables u) f g → r (term_value t (seeing s f)) (term_value u (seeing s f)) ≡ r (term_value t (seeing s g)) (term_value u (seeing s g))
two_same r t u s f g h =
    ap₂ r (term_same t s f g (front (term_variables t) (term_variables u) f g h)) (term_same u s f g (behind (term_variables t) (term_variables u) f g h))

mutual
  pub cond_same : (c : CondTree) (s : State) (f g : Var → ℤ) → AgreeOn (cond_variables c) f g → holds c (seeing s f) ≡ holds c (seeing s g)
  cond_same (le t u) s f g h = two_same int_le t u s f g h
  cond_same (lt t u) s f g h = two_same int_lt t u s f g h
  cond_same (eq t u) s f g h = two_same int_eq t u s f g h
  cond_same (ne t u) s f g h = ap flip (two_same int_eq t u s f g h)
  cond_same (not c) s f g h = ap flip (cond_same c s f g h)
  cond_same (and cs) s f g h = all_same cs s f g h
  cond_same (or cs) s f g h = some_same cs s f g h

  all_same : (cs : CondTrees) (s : State) (f g : Var → ℤ) → AgreeOn (conds_variables cs) f g → all_hold cs (seeing s f) ≡ all_hold cs (seeing s g)
  all_same no_conds s f g h = refl
  all_same (cond_and c cs) s f g h =
      ap₂ (λ a b. a && b) (cond_same c s f g (front (cond_variables c) (conds_variables cs) f g h)) (all_same cs s f g (behind (cond_variables c) (conds_variables cs) f g h))

  some_same : (cs : CondTrees) (s : State) (f g : Var → ℤ) → AgreeOn (conds_variables cs) f g → some_holds cs (seeing s f) ≡ some_holds cs (seeing s g)
  some_same no_conds s f g h = refl
  some_same (cond_and c cs) s f g h =
      ap₂ (λ a b. a || b) (cond_same c s f g (front (cond_variables c) (conds_variables cs) f g h)) (some_same cs s f g (behind (cond_variables c) (conds_variables cs) f g h))

mutual
  pub value_same : (a : AssertionTree) (s : State) (f g : Var → ℤ) → AgreeOn (variables a) f g → value a (seeing s f) ≡ value a (seeing s g)
  value_same (natural n) s f g h = refl
  value_same infinity s f g h = refl
  value_same (cost i) s f g h = refl
  value_same (num t) s f g h = ap (λ z. finite (natural_part z)) (term_same t s f g h)
  value_same (total parts) s f g h = sum_of_same parts s f g h
  value_same (greatest parts) s f g h = greatest_of_same parts s f g h
  value_same (product parts) s f g h = product_of_same parts s f g h
  value_same (guard c a) s f g h =
      ap₂ (λ b v. if b then v else infinite) (cond_same c s f g (front (cond_variables c) (variables a) f g h)) (value_same a s f g (behind (cond_variables c) (variables a) f g h))
  value_same (choose c a b) s f g h =
      let k = behind (cond_variables c) (variables a ++ variables b) f g h in
      let x = cond_same c s f g (front (cond_variables c) (variables a ++ variables b) f g h) in
      let y = value_same a s f g (front (variables a) (variables b) f g k) in
      let z = value_same b s f g (behind (variables a) (variables b) f g k) in
      (λ i. if x i then y i else z i)
  value_same (named n) s f g h = refl

  sum_of_same : (parts : AssertionTrees) (s : State) (f g : Var → ℤ) → AgreeOn (all_variables parts) f g → sum_of parts (seeing s f) ≡ sum_of parts (seeing s g)
  sum_of_same no_assertions s f g h = refl
  sum_of_same (assertion_and a parts) s f g h =
      ap₂ plus (value_same a s f g (front (variables a) (all_variables parts) f g h)) (sum_of_same parts s f g (behind (variables a) (all_variables parts) f g h))

  greatest_of_same : (parts : AssertionTrees) (s : State) (f g : Var → ℤ) → AgreeOn (all_variables parts) f g → greatest_of parts (seeing s f) ≡ greatest_of parts (seeing s g)
  greatest_of_same no_assertions s f g h = refl
  greatest_of_same (assertion_and a parts) s f g h =
      ap₂ greater (value_same a s f g (front (variables a) (all_variables parts) f g h)) (greatest_of_same parts s f g (behind (variables a) (all_variables parts) f g h))

  product_of_same : (parts : AssertionTrees) (s : State) (f g : Var → ℤ) → AgreeOn (all_variables parts) f g → product_of parts (seeing s f) ≡ product_of parts (seeing s g)
  product_of_same no_assertions s f g h = refl
  product_of_same (assertion_and a parts) s f g h =
      ap₂ times (value_same a s f g (front (variables a) (all_variables parts) f g h)) (product_of_same parts s f g (behind (variables a) (all_variables parts) f g h))

-- ---- variables that are mentioned

pub agree_where_mentioned : (xs : List Var) (f g : Var → ℤ) → ((x : Var) → list_any (λ y. same_variable y x) xs ≡ true → f x ≡ g x) → AgreeOn xs f g
agree_where_mentioned [] f g h = tt
agree_where_mentioned (x ∷ xs) f g h =
    (h x (or_left (same_variable x x) (list_any (λ y. same_variable y x) xs) (variable_self x)), agree_where_mentioned xs f g (λ z k. h z (or_right (same_variable x z) (list_any (λ y. same_variable y z) xs) k)))

pub of_its_variables : IsOfItsVariables
of_its_variables a s f g h = value_same a s f g (agree_where_mentioned (variables a) f g h)

unlike : (b : Bool) (z w : ℤ) → b ≡ false → (if b then z else w) ≡ w
unlike true z w h = cc
unlike false z w h = refl

-- a variable that isn't mentioned may have any number
agree_elsewhere : (xs : List Var) (x : Var) (z : ℤ) (s : State) → list_any (λ y. same_variable y x) xs ≡ false → AgreeOn xs (λ y. if same_variable y x then z else s.at y) s.at
agree_elsewhere [] x z s h = tt
agree_elsewhere (y ∷ xs) x z s h =
    let p = or_parts (same_variable y x) (list_any (λ w. same_variable w x) xs) h in (unlike (same_variable y x) z (s.at y) p.0, agree_elsewhere xs x z s p.1)

pub not_mentioned : (a : AssertionTree) (x : Var) (b : Bool) → b ≡ mentions a x → b ≡ false → (s : State) (z : ℤ) → value a (with_value x z s) ≡ value a s
not_mentioned a x b e h s z = value_same a s (λ y. if same_variable y x then z else s.at y) s.at (agree_elsewhere (variables a) x z s (sym e ∙ h))

head_or : (x : Var) (head : TermNode) (rest : List Var) (b : Bool) → b ≡ list_any (λ y. same_variable y x) rest → (head_mentions x head || b) ≡ list_any (λ y. same_variable y x) (head_variables head ++ rest)
head_or x (Number k) rest b e = e
head_or x (Variable y) rest b e = ap (λ c. same_variable y x || c) e
head_or x (Add n) rest b e = e
head_or x Sub rest b e = e
head_or x (Mul n) rest b e = e
head_or x (Div k) rest b e = e
head_or x WrapUnsigned rest b e = e
head_or x WrapSigned rest b e = e
head_or x Bits rest b e = e

mentioned_among : (x : Var) (nodes : List Node) → list_any (node_mentions x) nodes ≡ list_any (λ y. same_variable y x) (listed nodes)
mentioned_among x [] = refl
mentioned_among x (Term head ∷ nodes) = head_or x head (listed nodes) (list_any (node_mentions x) nodes) (mentioned_among x nodes)
mentioned_among x (Condition head ∷ nodes) = mentioned_among x nodes
mentioned_among x (Assertion head ∷ nodes) = mentioned_among x nodes

pub mentioned : (a : AssertionTree) (x : Var) (nodes : List Node) (b : Bool) → nodes ≡ assertion_nodes a → b ≡ list_any (node_mentions x) nodes → b ≡ mentions a x
mentioned a x nodes b e h =
    h ∙ (mentioned_among x nodes ∙ (ap (λ (l : List Node). list_any (λ y. same_variable y x) (listed l)) e ∙ ap (list_any (λ y. same_variable y x)) (assertion_listed a)))

-- ---- the first variable without an image, node by node

pub told_missing : (m : Var → Option TermTree) (a : AssertionTree) (nodes : List Node) (o : Option Var) → o ≡ find (λ x. is_none (m x)) (listed nodes) → nodes ≡ assertion_nodes a → o ≡ first_without m a
told_missing m a nodes o h e =
    h ∙ (ap (λ (l : List Node). find (λ x. is_none (m x)) (listed l)) e ∙ ap (find (λ x. is_none (m x))) (assertion_listed a))
