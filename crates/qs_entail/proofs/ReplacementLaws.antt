-- Branches of conditionals and bodies of names have the values of what they replace.
use Rattle.std.proofs.Common.{◌≡◌, ℕ, List, refl, sym, ap, ◌∙◌, true, false, ap₂}
use Rattle.std.specs.Prelude.{Bool, if◌then◌else◌}
use Rattle.qs_assert.specs.Bounds.{same_name}
use Rattle.qs_assert.specs.Sameness.{same_cond}
use Rattle.qs_assert.specs.Trees.{CondTree, AssertionTree, natural, infinity, cost, num, total, greatest, product, guard, choose, named, AssertionTrees, no_assertions, assertion_and}
use Rattle.qs_assert.specs.Values.{State, infinite, holds, or_infinite, value, sum_of, greatest_of, product_of, plus, greater, times}
use Rattle.qs_assert.proofs.SamenessLaws.{cond_same, name_equal}
use Rattle.qs_entail.specs.Faults.{branch, branches, unfolded, all_unfolded}

-- the values of the three kinds of lists of parts
pub record SameValues (ps qs : AssertionTrees) (s : State) : Type 0 where
  pub sums : sum_of ps s ≡ sum_of qs s
  pub greatest_parts : greatest_of ps s ≡ greatest_of qs s
  pub products : product_of ps s ≡ product_of qs s

same_values_and : (a b : AssertionTree) (ps qs : AssertionTrees) (s : State) → value a s ≡ value b s → SameValues ps qs s → SameValues (assertion_and a ps) (assertion_and b qs) s
same_values_and a b ps qs s e v = record { sums = ap₂ plus e v.sums; greatest_parts = ap₂ greater e v.greatest_parts; products = ap₂ times e v.products }

-- ---- branches

chosen : (same first : Bool) (x y x' y' : AssertionTree) (c : CondTree) (s : State) → (same ≡ true → holds c s ≡ first) → value x s ≡ value x' s → value y s ≡ value y' s → value (if same then (if first then x else y) else choose c x y) s ≡ (if holds c s then value x' s else value y' s)
chosen true true x y x' y' c s h e f = e ∙ sym (ap (λ b. if b then value x' s else value y' s) (h refl))
chosen true false x y x' y' c s h e f = f ∙ sym (ap (λ b. if b then value x' s else value y' s) (h refl))
chosen false first x y x' y' c s h e f = ap₂ (λ u v. if holds c s then u else v) e f

mutual
  pub branch_value : (b : CondTree) (first : Bool) (p : AssertionTree) (s : State) → holds b s ≡ first → value (branch b first p) s ≡ value p s
  branch_value b first (natural n) s h = refl
  branch_value b first infinity s h = refl
  branch_value b first (cost f) s h = refl
  branch_value b first (num t) s h = refl
  branch_value b first (total parts) s h = (branches_values b first parts s h).sums
  branch_value b first (greatest parts) s h = (branches_values b first parts s h).greatest_parts
  branch_value b first (product parts) s h = (branches_values b first parts s h).products
  branch_value b first (guard c a) s h = ap (λ u. if holds c s then u else infinite) (branch_value b first a s h)
  branch_value b first (choose c x y) s h =
      chosen (same_cond b c) first (branch b first x) (branch b first y) x y c s (λ e. sym (ap (λ d. holds d s) (cond_same b c e)) ∙ h) (branch_value b first x s h) (branch_value b first y s h)
  branch_value b first (named n) s h = refl

  branches_values : (b : CondTree) (first : Bool) (ps : AssertionTrees) (s : State) → holds b s ≡ first → SameValues (branches b first ps) ps s
  branches_values b first no_assertions s h = record { sums = refl; greatest_parts = refl; products = refl }
  branches_values b first (assertion_and a ps) s h = same_values_and (branch b first a) a (branches b first ps) ps s (branch_value b first a s h) (branches_values b first ps s h)

-- ---- names

by_name : (same : Bool) (n m : List ℕ) (body : AssertionTree) (s : State) → (same ≡ true → n ≡ m) → or_infinite (s.names n) ≡ value body s → value (if same then body else named m) s ≡ or_infinite (s.names m)
by_name true n m body s h e = sym e ∙ ap (λ k. or_infinite (s.names k)) (h refl)
by_name false n m body s h e = refl

mutual
  pub unfolded_value : (n : List ℕ) (body p : AssertionTree) (s : State) → or_infinite (s.names n) ≡ value body s → value (unfolded n body p) s ≡ value p s
  unfolded_value n body (natural k) s h = refl
  unfolded_value n body infinity s h = refl
  unfolded_value n body (cost f) s h = refl
  unfolded_value n body (num t) s h = refl
  unfolded_value n body (total parts) s h = (unfolded_values n body parts s h).sums
  unfolded_value n body (greatest parts) s h = (unfolded_values n body parts s h).greatest_parts
  unfolded_value n body (product parts) s h = (unfolded_values n body parts s h).products
  unfolded_value n body (guard c a) s h = ap (λ u. if holds c s then u else infinite) (unfolded_value n body a s h)
  unfolded_value n body (choose c x y) s h = ap₂ (λ u v. if holds c s then u else v) (unfolded_value n body x s h) (unfolded_value n body y s h)
  unfolded_value n body (named m) s h = by_name (same_name n m) n m body s (name_equal n m) h

  unfolded_values : (n : List ℕ) (body : AssertionTree) (ps : AssertionTrees) (s : State) → or_infinite (s.names n) ≡ value body s → SameValues (all_unfolded n body ps) ps s
  unfolded_values n body no_assertions s h = record { sums = refl; greatest_parts = refl; products = refl }
  unfolded_values n body (assertion_and a ps) s h = same_values_and (unfolded n body a) a (all_unfolded n body ps) ps s (unfolded_value n body a s h) (unfolded_values n body ps s h)
