-- Where a condition tests the counter, the certificate of the test shows what both branches need.
use Rattle.std.proofs.Common.{◌≡◌, ◌≤◌, ◌+◌, ◌^◌, ◌==◌, ℕ, refl, sym, ap, subst, Bool, true, false, [], Some, None}
use Rattle.std.specs.Prelude.{ℤ, pos, negsuc, Option, if◌then◌else◌, List}
use Rattle.std.proofs.lemmas.Bool.{eqb-true}
use Rattle.qs_memory.specs.Partial.{◌>>=◌, only_if}
use Rattle.qs_memory.specs.declared.scalar.Scalar.{Scalar}
use Rattle.qs_memory.specs.declared.scalar.Scalar.TheVariants as scalars
use Rattle.qs_assert.specs.declared.define.Define.{Define}
use Rattle.qs_assert.specs.declared.variable.VarKind.TheVariants as kinds
use Rattle.qs_assert.specs.Trees.{CondTree, AssertionTree, choose}
use Rattle.qs_core.specs.TermTrees.{CoreTermTree, number, variable, temporary, combined, quotient, wrapped, CoreConditionTree, compared, not, and, or}
use Rattle.qs_core.specs.declared.term.TermComparison.{TermComparison}
use Rattle.qs_core.specs.declared.term.TermComparison.TheVariants.{Less, LessOrEqual, Equal, NotEqual}
use Rattle.qs_entail.specs.Certificates.{CertTree, same, split}
use Rattle.qs_entail.specs.Verdicts.{verdict}
use Rattle.qs_triples.specs.ExpressionTerms.{condition_tree}
use Rattle.qs_recur.proofs.AroundLaws.{IsWithoutChoice}
use Rattle.qs_recur.specs.Counters.{Test, below, at_least, least_of, is_unsigned_variable, is_counter, natural_of, constant, if_zero, counter_left, counter_right, comparison_test, test_in}
use Rattle.qs_recur.specs.Written.{told_by}
use Rattle.qs_recur.proofs.GuardLaws.{r0, r1, zero_tested, nonzero_tested, below_tested, from_tested, at_most_tested, more_tested}

-- ---- the terms of a test

equal_numbers : (x y : ℕ) → (y == x) ≡ true → y ≡ x
equal_numbers x y h = eqb-true y x h

unsigned_is : (x : ℕ) (s : Scalar) (y : ℕ) → is_unsigned_variable x s y ≡ true → variable s y ≡ variable scalars.Unsigned x
unsigned_is x scalars.Char y h = cc
unsigned_is x scalars.Int y h = cc
unsigned_is x scalars.Unsigned y h = ap (λ (z : ℕ). variable scalars.Unsigned z) (equal_numbers x y h)
unsigned_is x scalars.Pointer y h = cc

pub counter_is : (x : ℕ) (t : CoreTermTree) → is_counter x t ≡ true → t ≡ variable scalars.Unsigned x
counter_is x (number k) h = cc
counter_is x (variable s y) h = unsigned_is x s y h
counter_is x (temporary s k) h = cc
counter_is x (combined op t u) h = cc
counter_is x (quotient t k) h = cc
counter_is x (wrapped s t) h = cc

natural_is : (k : ℤ) (n : ℕ) → natural_of k ≡ Some n → k ≡ pos n
natural_is (pos k) n h = cc
natural_is (negsuc k) n h = cc

pub constant_is : (t : CoreTermTree) (n : ℕ) → constant t ≡ Some n → t ≡ number (pos n)
constant_is (number k) n h = ap number (natural_is k n h)
constant_is (variable s y) n h = cc
constant_is (temporary s k) n h = cc
constant_is (combined op t u) n h = cc
constant_is (quotient t k) n h = cc
constant_is (wrapped s t) n h = cc

-- a step that gives something has something before it
pub step_before : {A B : Type 0} (o : Option A) (next : A → Option B) (b : B) → (o >>= next) ≡ Some b → (a : A) × (o ≡ Some a) × (next a ≡ Some b)
step_before None next b h = cc
step_before (Some a) next b h = (a, refl, h)

-- what is there is the same
pub some_same : {A : Type 0} (a b : A) → Some a ≡ Some b → a ≡ b
some_same a b h = cc

pub test_before : {A : Type 0} (t : Bool) (o : Option A) (a : A) → only_if t o ≡ Some a → (t ≡ true) × (o ≡ Some a)
test_before true o a h = (refl, h)
test_before false o a h = cc

-- ---- what the test decides

module _ (x : ℕ) (m : AssertionTree) (m_plain : IsWithoutChoice m) (ds : List Define) where
  abbrev start : AssertionTree
  start = r0 (kinds.Plain x) (kinds.Old x) m m_plain

  abbrev past : ℕ → AssertionTree
  past n = r1 (kinds.Plain x) (kinds.Old x) m m_plain n

  abbrev pub both_branches : Test → CondTree → AssertionTree
  both_branches (below n) b = choose b start (past n)
  both_branches (at_least n) b = choose b (past n) start

  abbrev pub certificate : Test → CondTree → CertTree
  certificate (below n) b = split b same (told_by (kinds.Plain x) b)
  certificate (at_least n) b = split b (told_by (kinds.Plain x) b) same

  abbrev Shows : CoreConditionTree → Test → Type 0
  Shows e test = verdict [] ds start (both_branches test (condition_tree e)) (certificate test (condition_tree e)) ≡ None

  abbrev the_counter : CoreTermTree
  the_counter = variable scalars.Unsigned x

  zero_left : (k : ℕ) (test given : Test) → if_zero k given ≡ Some test → (k ≡ 0) × (given ≡ test)
  zero_left k test given h =
      let p = test_before (k == 0) (Some given) test h in
      (equal_numbers 0 k p.0, some_same given test p.1)

  left_shows : (op : TermComparison) (k : ℕ) (test : Test) → counter_left op k ≡ Some test → least_of test ≤ 2 ^ 32 → Shows (compared op the_counter (number (pos k))) test
  left_shows Less k test h l =
      let e = some_same (below k) test h in
      subst (λ (t : Test). Shows (compared Less the_counter (number (pos k))) t) e (below_tested (kinds.Plain x) (kinds.Old x) m m_plain k (subst (λ (t : Test). least_of t ≤ 2 ^ 32) (sym e) l) ds)
  left_shows LessOrEqual k test h l =
      let e = some_same (below (k + 1)) test h in
      subst (λ (t : Test). Shows (compared LessOrEqual the_counter (number (pos k))) t) e (at_most_tested (kinds.Plain x) (kinds.Old x) m m_plain k (subst (λ (t : Test). least_of t ≤ 2 ^ 32) (sym e) l) ds)
  left_shows Equal k test h l =
      let p = zero_left k test (below 1) h in
      subst (λ (t : Test). Shows (compared Equal the_counter (number (pos k))) t) p.1
      (subst (λ (i : ℕ). Shows (compared Equal the_counter (number (pos i))) (below 1)) (sym p.0) (zero_tested (kinds.Plain x) (kinds.Old x) m m_plain ds))
  left_shows NotEqual k test h l =
      let p = zero_left k test (at_least 1) h in
      subst (λ (t : Test). Shows (compared NotEqual the_counter (number (pos k))) t) p.1
      (subst (λ (i : ℕ). Shows (compared NotEqual the_counter (number (pos i))) (at_least 1)) (sym p.0) (nonzero_tested (kinds.Plain x) (kinds.Old x) m m_plain ds))

  right_shows : (op : TermComparison) (k : ℕ) (test : Test) → counter_right op k ≡ Some test → least_of test ≤ 2 ^ 32 → Shows (compared op (number (pos k)) the_counter) test
  right_shows Less k test h l =
      let e = some_same (at_least (k + 1)) test h in
      subst (λ (t : Test). Shows (compared Less (number (pos k)) the_counter) t) e (more_tested (kinds.Plain x) (kinds.Old x) m m_plain k (subst (λ (t : Test). least_of t ≤ 2 ^ 32) (sym e) l) ds)
  right_shows LessOrEqual k test h l =
      let e = some_same (at_least k) test h in
      subst (λ (t : Test). Shows (compared LessOrEqual (number (pos k)) the_counter) t) e (from_tested (kinds.Plain x) (kinds.Old x) m m_plain k (subst (λ (t : Test). least_of t ≤ 2 ^ 32) (sym e) l) ds)
  right_shows Equal k test h l = cc
  right_shows NotEqual k test h l = cc

  comparison_shows : (op : TermComparison) (t u : CoreTermTree) (test : Test) → comparison_test x op t u ≡ Some test → least_of test ≤ 2 ^ 32 → Shows (compared op t u) test
  comparison_shows op t u test h l = by (is_counter x t) refl h
    where
      by :
          (is : Bool) → is_counter x t ≡ is → (if is then constant u >>= counter_left op else only_if (is_counter x u) (constant t >>= counter_right op)) ≡ Some test
          → Shows (compared op t u) test
      by true e h =
          let p = step_before (constant u) (counter_left op) test h in
          subst (λ (a : CoreTermTree). Shows (compared op a u) test) (sym (counter_is x t e))
          (subst (λ (a : CoreTermTree). Shows (compared op the_counter a) test) (sym (constant_is u p.0 p.1)) (left_shows op p.0 test p.2 l))
      by false e h =
          let q = test_before (is_counter x u) (constant t >>= counter_right op) test h in
          let p = step_before (constant t) (counter_right op) test q.1 in
          subst (λ (a : CoreTermTree). Shows (compared op t a) test) (sym (counter_is x u q.0))
          (subst (λ (a : CoreTermTree). Shows (compared op a the_counter) test) (sym (constant_is t p.0 p.1)) (right_shows op p.0 test p.2 l))

  pub test_shows : (e : CoreConditionTree) (test : Test) → test_in x e ≡ Some test → least_of test ≤ 2 ^ 32 → Shows e test
  test_shows (compared op t u) test h l = comparison_shows op t u test h l
  test_shows (not e) test h l = cc
  test_shows (and e d) test h l = cc
  test_shows (or e d) test h l = cc
