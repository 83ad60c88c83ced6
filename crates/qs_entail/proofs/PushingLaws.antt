-- What is pushed holds where its condition holds.
use Rattle.std.proofs.Common.{◌≡◌, refl, sym, ap, subst, arith, true, false}
use Rattle.std.specs.Prelude.{ℤ, ◌≤ℤ◌, ◌<ℤ◌, Bool, List, [], ◌∷◌, ◌++◌, All, Result, Ok, int_le, int_lt}
use Rattle.std.specs.Prelude.{not as flip}
use Rattle.std.specs.Ordering.{int_eq}
use Rattle.std.proofs.lemmas.Int.{ints}
use Rattle.std.proofs.lemmas.List.Elements.{All-push, All-head, All-tail}
use Rattle.std.proofs.Common.{append_assoc}
use Rattle.std.proofs.lemmas.Bool.{and_parts, or_parts}
use Rattle.qs_assert.specs.Trees.{TermTree, CondTree, le, lt, eq, ne, not, and, or, CondTrees, no_conds, cond_and}
use Rattle.qs_assert.specs.Values.{State, term_value, holds, all_hold, some_holds}
use Rattle.qs_poly.specs.Polynomials.{Polynomial}
use Rattle.qs_poly.specs.Operations.{lessened}
use Rattle.qs_base.specs.Results.{bind}
use Rattle.qs_entail.specs.Building.{Stop, limited, difference, term_polynomial}
use Rattle.qs_entail.specs.Pushing.{Known, with_condition, with_polynomials, push_le, push_lt, push_eq, push, push_not, push_all, push_nots, push_list}
use Rattle.qs_entail.proofs.BuildingLaws.{bind_ok, difference_value, limited_lessened_value, term_polynomial_value}
use Rattle.qs_entail.proofs.Assertions.{IsNotNegative, AllNotNegative}

-- what is known holds in a state
pub record Holds (k : Known) (s : State) : Type 0 where
  pub conditions : All (λ c. holds c s ≡ true) k.conditions
  pub polynomials : All (IsNotNegative s) k.polynomials

pub more_condition : (c : CondTree) (k : Known) (s : State) → Holds k s → holds c s ≡ true → Holds (with_condition c k) s
more_condition c k s h t = record { conditions = All-push (λ c. holds c s ≡ true) k.conditions c h.conditions t; polynomials = h.polynomials }

all_more : (s : State) (l ps : List Polynomial) → All (IsNotNegative s) l → AllNotNegative s ps → All (IsNotNegative s) (l ++ ps)
all_more s l [] h n = subst (λ xs. All (IsNotNegative s) xs) (sym (none_more l)) h
  where
    none_more : (xs : List Polynomial) → xs ++ [] ≡ xs
    none_more [] = refl
    none_more (x ∷ xs) = ap (λ ys. x ∷ ys) (none_more xs)
all_more s l (p ∷ ps) h n =
    subst (λ xs. All (IsNotNegative s) xs) (append_assoc l (p ∷ []) ps) (all_more s (l ++ p ∷ []) ps (All-push (IsNotNegative s) l p h n.0) n.1)

pub more_polynomials : (ps : List Polynomial) (k : Known) (s : State) → Holds k s → AllNotNegative s ps → Holds (with_polynomials ps k) s
more_polynomials ps k s h n = record { conditions = h.conditions; polynomials = all_more s k.polynomials ps h.polynomials n }

-- ---- comparisons

le_true : (a b : ℤ) → int_le a b ≡ true → a ≤ℤ b
le_true a b h = grind (arith, ints)

lt_true : (a b : ℤ) → int_lt a b ≡ true → a <ℤ b
lt_true a b h = grind (arith, ints)

eq_true : (a b : ℤ) → int_eq a b ≡ true → a ≡ b
eq_true a b h = grind (arith, ints)

le_false : (a b : ℤ) → int_le a b ≡ false → int_lt b a ≡ true
le_false a b h = grind (arith, ints)

lt_false : (a b : ℤ) → int_lt a b ≡ false → int_le b a ≡ true
lt_false a b h = grind (arith, ints)

pub not_true : (x : Bool) → flip x ≡ true → x ≡ false
not_true true h = cc
not_true false h = refl

not_false : (x : Bool) → flip x ≡ false → x ≡ true
not_false true h = refl
not_false false h = cc

-- ---- pushes

pub made : {A : Type 0} (a b : A) → (let r : Result A Stop = Ok a in r) ≡ Ok b → a ≡ b
made a b h = cc

push_le_holds : (t u : TermTree) (k k' : Known) (s : State) → push_le t u k ≡ Ok k' → holds (le t u) s ≡ true → Holds k s → Holds k' s
push_le_holds t u k k' s e h o =
    let a = bind_ok (term_polynomial t) (λ p. bind (term_polynomial u) (λ q. bind (difference q p) (λ d. Ok (with_polynomials (d ∷ []) (with_condition (le t u) k))))) k' e in
    let b = bind_ok (term_polynomial u) (λ q. bind (difference q a.0) (λ d. Ok (with_polynomials (d ∷ []) (with_condition (le t u) k)))) k' a.1.1 in
    let c = bind_ok (difference b.0 a.0) (λ d. Ok (with_polynomials (d ∷ []) (with_condition (le t u) k))) k' b.1.1 in
    let x = term_polynomial_value t a.0 s a.1.0 in
    let y = term_polynomial_value u b.0 s b.1.0 in
    let v = difference_value b.0 a.0 c.0 s c.1.0 in
    let i = le_true (term_value t s) (term_value u s) h in
    let z = made (with_polynomials (c.0 ∷ []) (with_condition (le t u) k)) k' c.1.1 in
    subst (λ k. Holds k s) z (more_polynomials (c.0 ∷ []) (with_condition (le t u) k) s (more_condition (le t u) k s o h) (omega (arith, ints, x, y, v, i), tt))

push_lt_holds : (t u : TermTree) (k k' : Known) (s : State) → push_lt t u k ≡ Ok k' → holds (lt t u) s ≡ true → Holds k s → Holds k' s
push_lt_holds t u k k' s e h o =
    let a = bind_ok (term_polynomial t) (λ p. bind (term_polynomial u) (λ q. bind (limited (lessened q 1 p 1)) (λ d. Ok (with_polynomials (d ∷ []) (with_condition (lt t u) k))))) k' e in
    let b = bind_ok (term_polynomial u) (λ q. bind (limited (lessened q 1 a.0 1)) (λ d. Ok (with_polynomials (d ∷ []) (with_condition (lt t u) k)))) k' a.1.1 in
    let c = bind_ok (limited (lessened b.0 1 a.0 1)) (λ d. Ok (with_polynomials (d ∷ []) (with_condition (lt t u) k))) k' b.1.1 in
    let x = term_polynomial_value t a.0 s a.1.0 in
    let y = term_polynomial_value u b.0 s b.1.0 in
    let v = limited_lessened_value b.0 1 a.0 1 c.0 s c.1.0 in
    let i = lt_true (term_value t s) (term_value u s) h in
    let z = made (with_polynomials (c.0 ∷ []) (with_condition (lt t u) k)) k' c.1.1 in
    subst (λ k. Holds k s) z (more_polynomials (c.0 ∷ []) (with_condition (lt t u) k) s (more_condition (lt t u) k s o h) (omega (arith, ints, x, y, v, i), tt))

push_eq_holds : (t u : TermTree) (k k' : Known) (s : State) → push_eq t u k ≡ Ok k' → holds (eq t u) s ≡ true → Holds k s → Holds k' s
push_eq_holds t u k k' s e h o =
    let a = bind_ok (term_polynomial t) (λ p. bind (term_polynomial u) (λ q. bind (difference q p) (λ d. bind (difference p q) (λ e. Ok (with_polynomials (d ∷ e ∷ []) (with_condition (eq t u) k)))))) k' e in
    let b = bind_ok (term_polynomial u) (λ q. bind (difference q a.0) (λ d. bind (difference a.0 q) (λ e. Ok (with_polynomials (d ∷ e ∷ []) (with_condition (eq t u) k))))) k' a.1.1 in
    let c = bind_ok (difference b.0 a.0) (λ d. bind (difference a.0 b.0) (λ e. Ok (with_polynomials (d ∷ e ∷ []) (with_condition (eq t u) k)))) k' b.1.1 in
    let f = bind_ok (difference a.0 b.0) (λ e. Ok (with_polynomials (c.0 ∷ e ∷ []) (with_condition (eq t u) k))) k' c.1.1 in
    let x = term_polynomial_value t a.0 s a.1.0 in
    let y = term_polynomial_value u b.0 s b.1.0 in
    let v = difference_value b.0 a.0 c.0 s c.1.0 in
    let w = difference_value a.0 b.0 f.0 s f.1.0 in
    let i = eq_true (term_value t s) (term_value u s) h in
    let z = made (with_polynomials (c.0 ∷ f.0 ∷ []) (with_condition (eq t u) k)) k' f.1.1 in
    subst (λ k. Holds k s) z
    (more_polynomials (c.0 ∷ f.0 ∷ []) (with_condition (eq t u) k) s (more_condition (eq t u) k s o h) (omega (arith, ints, x, y, v, i), (omega (arith, ints, x, y, w, i), tt)))

kept : (c : CondTree) (k k' : Known) (s : State) → (let r : Result Known Stop = Ok (with_condition c k) in r) ≡ Ok k' → holds c s ≡ true → Holds k s → Holds k' s
kept c k k' s e h o = subst (λ k. Holds k s) (made (with_condition c k) k' e) (more_condition c k s o h)

negated : (c : CondTree) (s : State) → holds c s ≡ false → holds (not c) s ≡ true
negated c s h = ap flip h

mutual
  pub push_holds : (c : CondTree) (k k' : Known) (s : State) → push c k ≡ Ok k' → holds c s ≡ true → Holds k s → Holds k' s
  push_holds (le t u) k k' s e h o = push_le_holds t u k k' s e h o
  push_holds (lt t u) k k' s e h o = push_lt_holds t u k k' s e h o
  push_holds (eq t u) k k' s e h o = push_eq_holds t u k k' s e h o
  push_holds (ne t u) k k' s e h o = kept (ne t u) k k' s e h o
  push_holds (not c) k k' s e h o = push_not_holds c k k' s e (not_true (holds c s) h) o
  push_holds (and cs) k k' s e h o = push_all_holds cs k k' s e h o
  push_holds (or cs) k k' s e h o = kept (or cs) k k' s e h o

  push_not_holds : (c : CondTree) (k k' : Known) (s : State) → push_not c k ≡ Ok k' → holds c s ≡ false → Holds k s → Holds k' s
  push_not_holds (le t u) k k' s e h o = push_lt_holds u t k k' s e (le_false (term_value t s) (term_value u s) h) o
  push_not_holds (lt t u) k k' s e h o = push_le_holds u t k k' s e (lt_false (term_value t s) (term_value u s) h) o
  push_not_holds (eq t u) k k' s e h o = kept (not (eq t u)) k k' s e (negated (eq t u) s h) o
  push_not_holds (ne t u) k k' s e h o = push_eq_holds t u k k' s e (not_false (holds (eq t u) s) h) o
  push_not_holds (not c) k k' s e h o = push_holds c k k' s e (not_false (holds c s) h) o
  push_not_holds (and cs) k k' s e h o = kept (not (and cs)) k k' s e (negated (and cs) s h) o
  push_not_holds (or cs) k k' s e h o = push_nots_holds cs k k' s e h o

  push_all_holds : (cs : CondTrees) (k k' : Known) (s : State) → push_all cs k ≡ Ok k' → all_hold cs s ≡ true → Holds k s → Holds k' s
  push_all_holds no_conds k k' s e h o = subst (λ k. Holds k s) (made k k' e) o
  push_all_holds (cond_and c cs) k k' s e h o =
      let a = bind_ok (push c k) (λ k'. push_all cs k') k' e in
      let b = and_parts (holds c s) (all_hold cs s) h in
      push_all_holds cs a.0 k' s a.1.1 b.1 (push_holds c k a.0 s a.1.0 b.0 o)

  push_nots_holds : (cs : CondTrees) (k k' : Known) (s : State) → push_nots cs k ≡ Ok k' → some_holds cs s ≡ false → Holds k s → Holds k' s
  push_nots_holds no_conds k k' s e h o = subst (λ k. Holds k s) (made k k' e) o
  push_nots_holds (cond_and c cs) k k' s e h o =
      let a = bind_ok (push_not c k) (λ k'. push_nots cs k') k' e in
      let b = or_parts (holds c s) (some_holds cs s) h in
      push_nots_holds cs a.0 k' s a.1.1 b.1 (push_not_holds c k a.0 s a.1.0 b.0 o)

pub push_list_holds : (cs : List CondTree) (k k' : Known) (s : State) → push_list cs k ≡ Ok k' → All (λ c. holds c s ≡ true) cs → Holds k s → Holds k' s
push_list_holds [] k k' s e h o = subst (λ k. Holds k s) (made k k' e) o
push_list_holds (c ∷ cs) k k' s e h o =
    let a = bind_ok (push c k) (λ k'. push_list cs k') k' e in
    push_list_holds cs a.0 k' s a.1.1 (All-tail (λ c. holds c s ≡ true) c cs h) (push_holds c k a.0 s a.1.0 (All-head (λ c. holds c s ≡ true) c cs h) o)
