-- The guards of a function that counts x down: they hold at the entry, and where the test says so. m is what is needed
-- under them.
use Rattle.std.proofs.Common.{◌≡◌, ◌≤◌, ◌+◌, ◌-◌, ◌^◌, ℕ, suc, refl, ap, ◌∙◌, subst, arith, true, false, List, [], ◌∷◌, ◌++◌, length, Ok, None}
use Rattle.std.specs.Prelude.{ℤ, pos, negsuc, ◌+ℤ◌, ◌-ℤ◌, ◌*ℤ◌, ◌&&◌, Result}
use Rattle.std.proofs.lemmas.Int.{ints}
use Rattle.qs_base.specs.Results.{bind}
use Rattle.qs_assert.specs.declared.define.Define.{Define}
use Rattle.qs_assert.specs.declared.variable.VarKind.{VarKind}
use Rattle.qs_assert.specs.Trees.{CondTree, le, lt, eq, ne, not, AssertionTree, natural, infinity, guard, choose}
use Rattle.qs_assert.specs.Trees as tree
use Rattle.qs_poly.specs.Polynomials.{Monomial, one, Polynomial, nothing}
use Rattle.qs_poly.specs.Operations.{sum, number, lessened}
use Rattle.qs_entail.specs.Building.{Stop, limited, difference, term_polynomial, at}
use Rattle.qs_entail.specs.Certificates.{Item, apart, range, CertTree, same, assume, drop, split, contradict, fact}
use Rattle.qs_entail.specs.Facts.{Sides, condition, different_sides, apart_by}
use Rattle.qs_entail.specs.Pushing.{Known, with_condition, with_polynomials, at_first, push}
use Rattle.qs_entail.specs.Verdicts.{is_given, are_counted, fault, verdict}
use Rattle.qs_recur.proofs.AroundLaws.{IsWithoutChoice, only}
use Rattle.qs_recur.specs.Needs.{unsigned}
use Rattle.qs_recur.specs.Certificates.{unsigned_term, item, equals_itself, entry_guarded, never_apart, at_least_one, one_reached, least_reached, guard_dropped}
use Rattle.qs_recur.proofs.Readings.{reading, sum_reading, once_reading, number_reading, one_less_reading, found_equal, one_times}
use Rattle.qs_recur.proofs.Smallness.{small_more, small_one_less}
use Rattle.qs_recur.proofs.StepLaws.{bound, fault_same, fault_assume, fault_drop, fault_choice, fault_fact, fault_contradict}
use Rattle.qs_recur.proofs.SmallFacts.{IsKnown, one_number, one_is_two, two_is_known, two_difference, difference_is, number_is, x_of, range_added, small_two, one_combined, two_combined}
use Rattle.qs_recur.proofs.Identities.{spread, less_number, x_less, once_of, minus_one, but_one, opposite, below_one, itself}
use Rattle.qs_recur.proofs.WayLaws.{apart_added, contradicted, small_minus_one, minus_one_known, but_one_known, known_limited, once_known, px, py, y_less_x, x_less_y, from_zero, to_greatest, same_x, x_one, x_two, y_two, y_x_two, x_y_two, from_zero_two, equal_pushed, least_pushed}

-- ---- whole numbers

under_linear : (a b x n nu u c : ℤ) → a ≡ x -ℤ nu → b ≡ n -ℤ x -ℤ u → n ≡ nu → c ≡ pos 0 -ℤ u → a +ℤ b ≡ c
under_linear a b x n nu u c h i j k = omega (arith, ints, h, i, j, k)

minus_linear : (u : ℤ) → negsuc 0 *ℤ u ≡ pos 0 -ℤ u
minus_linear u = omega (arith, ints)

le_linear : (r x p n lu nu u : ℤ) → r ≡ x -ℤ n -ℤ u → n ≡ lu → nu ≡ lu +ℤ p → p ≡ u → r ≡ x -ℤ nu
le_linear r x p n lu nu u h i j k = omega (arith, ints, h, i, j, k)

one_apart : (l : ℕ) → l + 1 - l ≡ 1
one_apart l = omega arith

-- ---- at the entry

module _ (x : VarKind) where
  abbrev vx : Polynomial
  vx = x_of x

  pub equal_to_itself : (ds : List Define) → fault equals_itself ds (record { conditions = not (eq (unsigned_term x) (unsigned_term x)) ∷ []; polynomials = number (pos 1) ∷ [] }) (natural 0) infinity ≡ None
  equal_to_itself ds =
      let b = eq (unsigned_term x) (unsigned_term x) in
      let w : List Item = item 1 ∷ [] in
      let before : Known = record { conditions = not b ∷ []; polynomials = number (pos 1) ∷ [] } in
      let behind : Known = record { conditions = not b ∷ []; polynomials = number (pos 1) ∷ minus_one ∷ [] } in
      let i = once_known (number (pos 1) ∷ minus_one ∷ []) 1 minus_one refl minus_one_known in
      fault_fact (apart (pos 0) []) (contradict w) ds before (natural 0) infinity (minus_one ∷ []) refl
      (apart_added (unsigned_term x) (unsigned_term x) [] (number (pos 1) ∷ []) vx vx nothing refl refl (x_two x x) (x_two x x) refl refl
      (found_equal nothing (lessened vx 1 vx 0) tt (two_difference vx vx (x_one x x) (x_one x x)).canonical (λ g. itself g vx)))
      (fault_contradict w ds behind (natural 0) infinity refl
      (contradicted w behind (once_of minus_one) (one_combined (number (pos 1) ∷ minus_one ∷ []) (item 1) (once_of minus_one) i)
      (found_equal (once_of minus_one) minus_one i.1.canonical small_minus_one.canonical (λ g. once_reading g minus_one))))

  pub entry_holds : (m : AssertionTree) (ds : List Define) → verdict [] ds m (guard (eq (unsigned_term x) (unsigned_term x)) m) entry_guarded ≡ None
  entry_holds m ds =
      let b = eq (unsigned_term x) (unsigned_term x) in
      let before : Known = record { conditions = not b ∷ []; polynomials = number (pos 1) ∷ [] } in
      fault_drop equals_itself same ds at_first before b m m refl (equal_to_itself ds) (fault_same ds at_first m)

-- ---- a condition behind others

longer : (cs : List CondTree) (c : CondTree) → length (cs ++ c ∷ []) ≡ length cs + 1
longer [] c = refl
longer (b ∷ cs) c = ap suc (longer cs c) ∙ more (length cs)
  where
    more : (n : ℕ) → suc (n + 1) ≡ suc n + 1
    more n = omega arith

last_condition : (cs : List CondTree) (c : CondTree) → condition (cs ++ c ∷ []) (pos (length cs)) ≡ Ok c
last_condition [] c = refl
last_condition (b ∷ cs) c = last_condition cs c

third_behind : (cs : List CondTree) (a b c : CondTree) → condition (((cs ++ a ∷ []) ++ b ∷ []) ++ c ∷ []) (pos (length cs + 2)) ≡ Ok c
third_behind cs a b c =
    subst (λ (n : ℕ). condition (((cs ++ a ∷ []) ++ b ∷ []) ++ c ∷ []) (pos n) ≡ Ok c)
    (longer (cs ++ a ∷ []) b ∙ two_more (length (cs ++ a ∷ [])) (length cs) (longer cs a)) (last_condition ((cs ++ a ∷ []) ++ b ∷ []) c)
  where
    two_more : (m n : ℕ) → m ≡ n + 1 → m + 1 ≡ n + 2
    two_more m n h = omega (arith, h)

module _ (x o : VarKind) (m : AssertionTree) (m_plain : IsWithoutChoice m) where
  abbrev pub r0 : AssertionTree
  r0 = guard (same_x x o) m

  abbrev pub least : ℕ → CondTree
  least n = le (tree.number (pos n)) (unsigned_term x)

  abbrev pub r1 : ℕ → AssertionTree
  r1 n = guard (same_x x o) (guard (least n) m)

  pub r0_plain : IsWithoutChoice r0
  r0_plain b first = ap (λ (a : AssertionTree). guard (same_x x o) a) (m_plain b first)

  pub r1_plain : (n : ℕ) → IsWithoutChoice (r1 n)
  r1_plain n b first = ap (λ (a : AssertionTree). guard (same_x x o) (guard (least n) a)) (m_plain b first)

  -- ---- x isn't apart from o, by polynomials at these places

  abbrev less_one : Polynomial
  less_one = but_one (once_of (x_less_y x o))

  less_one_known : IsKnown less_one
  less_one_known = but_one_known (x_less_y x o) (x_y_two x o)

  never_apart_holds :
      (n less more known : ℕ) (k : Known) (ds : List Define) (p q : AssertionTree) → condition k.conditions (pos n) ≡ Ok (not (same_x x o)) → are_counted (item more ∷ []) (length k.polynomials) ≡ true
      → at k.polynomials (pos more) ≡ x_less_y x o → at (k.polynomials ++ less_one ∷ []) (pos less) ≡ y_less_x x o → at (k.polynomials ++ less_one ∷ []) (pos known) ≡ less_one
      → are_counted (item less ∷ item known ∷ []) (length (k.polynomials ++ less_one ∷ [])) ≡ true → fault (never_apart n less more known) ds k p q ≡ None
  never_apart_holds n less more known k ds p q is counted at_more at_less at_known both_counted =
      let a = y_less_x x o in
      let b = x_less_y x o in
      let w : List Item = item more ∷ [] in
      let v : List Item = item less ∷ item known ∷ [] in
      let behind : Known = with_polynomials (less_one ∷ []) k in
      let i = once_known k.polynomials more b at_more (two_is_known b (x_y_two x o)) in
      let j = once_known behind.polynomials less a at_less (two_is_known a (y_x_two x o)) in
      let l = once_known behind.polynomials known less_one at_known less_one_known in
      fault_fact (apart (pos n) w) (contradict v) ds k p q (less_one ∷ [])
      (ap (λ (r : Result CondTree Stop). is_given (bind r different_sides) && are_counted w (length k.polynomials)) is ∙ counted)
      (ap (λ (r : Result CondTree Stop). bind r (λ c. bind (different_sides c) (λ sides. apart_by sides.left sides.right w k.polynomials))) is
      ∙ apart_added (unsigned_term x) (unsigned_term o) w k.polynomials (px x o) (py x o) (once_of b) refl refl (x_two x o) (y_two x o) (one_combined k.polynomials (item more) (once_of b) i) (known_limited less_one less_one_known)
      (found_equal (once_of b) b i.1.canonical (x_y_two x o).canonical (λ g. once_reading g b)))
      (fault_contradict v ds behind p q both_counted
      (contradicted v behind (sum (once_of a) (once_of less_one)) (two_combined behind.polynomials (item less) (item known) (once_of a) (once_of less_one) j l)
      (found_equal (sum (once_of a) (once_of less_one)) minus_one (small_two (once_of a) (once_of less_one) j.1 l.1).canonical small_minus_one.canonical (λ g. opposite g (px x o) (py x o)))))

  -- ---- x is below n, where it isn't at least n

  abbrev under : ℕ → CondTree
  under n = lt (unsigned_term x) (tree.number (pos n))

  abbrev n_less : ℕ → Polynomial
  n_less n = lessened (number (pos n)) 1 (px x o) 1

  n_less_known : (n : ℕ) → n ≤ 2 ^ 32 → IsKnown (n_less n)
  n_less_known n fits =
      small_more 3 (2 ^ 32 + 2 ^ 32 + 1) 1 4 (2 ^ 34) 1 (n_less n) (omega arith) (omega arith) (omega arith) (small_one_less 1 (2 ^ 32) 1 (2 ^ 32) 1 (number (pos n)) (px x o) (one_number n fits) (x_one x o))

  under_pushed : (n : ℕ) → n ≤ 2 ^ 32 → (k : Known) → push (under n) k ≡ Ok (with_polynomials (n_less n ∷ []) (with_condition (under n) k))
  under_pushed n fits k =
      let d = with_condition (under n) k in
      bound (term_polynomial (tree.number (pos n))) (number (pos n)) (λ q. bind (limited (lessened q 1 (px x o) 1)) (λ e. Ok (with_polynomials (e ∷ []) (with_condition (under n) k)))) (Ok (with_polynomials (n_less n ∷ []) d)) (number_is n fits)
      (bound (limited (n_less n)) (n_less n) (λ e. Ok (with_polynomials (e ∷ []) d)) (Ok (with_polynomials (n_less n ∷ []) d)) (known_limited (n_less n) (n_less_known n fits)) refl)

  -- ---- the test whether x is 0

  abbrev pub zero_test : CondTree
  zero_test = eq (unsigned_term x) (tree.number (pos 0))

  -- a condition that says that x isn't 0
  abbrev SaysNonzero : CondTree → Type 0
  SaysNonzero z = different_sides z ≡ Ok (record { left = unsigned_term x; right = tree.number (pos 0) })

  at_least_one_holds :
      (z : CondTree) → SaysNonzero z → (ds : List Define) (b d : CondTree) (p q : AssertionTree)
      → fault (at_least_one x) ds (record { conditions = z ∷ b ∷ d ∷ []; polynomials = number (pos 1) ∷ y_less_x x o ∷ x_less_y x o ∷ n_less 1 ∷ [] }) p q ≡ None
  at_least_one_holds z says ds b d p q =
      let r = but_one (once_of (from_zero x o)) in
      let first : Known = record { conditions = z ∷ b ∷ d ∷ []; polynomials = number (pos 1) ∷ y_less_x x o ∷ x_less_y x o ∷ n_less 1 ∷ [] } in
      let second : Known = record { conditions = z ∷ b ∷ d ∷ []; polynomials = number (pos 1) ∷ y_less_x x o ∷ x_less_y x o ∷ n_less 1 ∷ from_zero x o ∷ to_greatest x o ∷ [] } in
      let third : Known = record { conditions = z ∷ b ∷ d ∷ []; polynomials = number (pos 1) ∷ y_less_x x o ∷ x_less_y x o ∷ n_less 1 ∷ from_zero x o ∷ to_greatest x o ∷ but_one (once_of (from_zero x o)) ∷ [] } in
      let v : List Item = item 4 ∷ [] in
      let w : List Item = item 3 ∷ item 6 ∷ [] in
      let i = once_known second.polynomials 4 (from_zero x o) refl (two_is_known (from_zero x o) (from_zero_two x o)) in
      let r_known = but_one_known (from_zero x o) (from_zero_two x o) in
      let j = once_known third.polynomials 3 (n_less 1) refl (n_less_known 1 (omega arith)) in
      let k = once_known third.polynomials 6 r refl r_known in
      fault_fact (range (unsigned x)) (fact (apart (pos 0) v) (contradict w)) ds first p q (from_zero x o ∷ to_greatest x o ∷ []) refl (range_added x first)
      (fault_fact (apart (pos 0) v) (contradict w) ds second p q (r ∷ [])
      (ap (λ (s : Result Sides Stop). is_given s && are_counted v (length second.polynomials)) says)
      (ap (λ (s : Result Sides Stop). bind s (λ sides. apart_by sides.left sides.right v second.polynomials)) says
      ∙ apart_added (unsigned_term x) (tree.number (pos 0)) v second.polynomials (px x o) (number (pos 0)) (once_of (from_zero x o)) refl (number_is 0 (omega arith)) (x_two x o) (one_is_two (number (pos 0)) (one_number 0 (omega arith)))
      (one_combined second.polynomials (item 4) (once_of (from_zero x o)) i) (known_limited r r_known)
      (found_equal (once_of (from_zero x o)) (from_zero x o) i.1.canonical (from_zero_two x o).canonical (λ g. once_reading g (from_zero x o))))
      (fault_contradict w ds third p q refl
      (contradicted w third (sum (once_of (n_less 1)) (once_of r)) (two_combined third.polynomials (item 3) (item 6) (once_of (n_less 1)) (once_of r) j k)
      (found_equal (sum (once_of (n_less 1)) (once_of r)) minus_one (small_two (once_of (n_less 1)) (once_of r) j.1 k.1).canonical small_minus_one.canonical (λ g. below_one g (px x o))))))

  -- then the second guard holds
  one_reached_holds : (z : CondTree) → SaysNonzero z → (ds : List Define) → fault (one_reached x) ds (record { conditions = z ∷ []; polynomials = number (pos 1) ∷ [] }) r0 (r1 1) ≡ None
  one_reached_holds z says ds =
      let s = same_x x o in
      let start : Known = record { conditions = z ∷ []; polynomials = number (pos 1) ∷ [] } in
      let equal : Known = record { conditions = z ∷ same_x x o ∷ []; polynomials = number (pos 1) ∷ y_less_x x o ∷ x_less_y x o ∷ [] } in
      let apart_known : Known = record { conditions = z ∷ same_x x o ∷ not (same_x x o) ∷ []; polynomials = number (pos 1) ∷ y_less_x x o ∷ x_less_y x o ∷ [] } in
      let under_known : Known = record { conditions = z ∷ same_x x o ∷ under 1 ∷ []; polynomials = number (pos 1) ∷ y_less_x x o ∷ x_less_y x o ∷ n_less 1 ∷ [] } in
      fault_assume (drop (never_apart 2 1 2 3) (drop (at_least_one x) same)) ds start equal s m (r1 1) (equal_pushed x o start)
      (fault_drop (never_apart 2 1 2 3) (drop (at_least_one x) same) ds equal apart_known s m (guard (least 1) m) refl (never_apart_holds 2 1 2 3 apart_known ds (natural 0) infinity refl refl refl refl refl refl)
      (fault_drop (at_least_one x) same ds equal under_known (least 1) m m (under_pushed 1 (omega arith) equal) (at_least_one_holds z says ds s (under 1) (natural 0) infinity) (fault_same ds equal m)))

  zero_pushed : push zero_test at_first ≡ Ok (record { conditions = zero_test ∷ []; polynomials = number (pos 1) ∷ lessened (number (pos 0)) 1 (px x o) 0 ∷ from_zero x o ∷ [] })
  zero_pushed =
      let z = number (pos 0) in
      let z_two = one_is_two z (one_number 0 (omega arith)) in
      let d = lessened z 1 (px x o) 0 in
      let known : Known = record { conditions = zero_test ∷ []; polynomials = number (pos 1) ∷ lessened (number (pos 0)) 1 (px x o) 0 ∷ from_zero x o ∷ [] } in
      bound (difference z (px x o)) d (λ d. bind (difference (px x o) z) (λ e. Ok (with_polynomials (d ∷ e ∷ []) (with_condition zero_test at_first)))) (Ok known) (difference_is z (px x o) z_two (x_two x o))
      (bound (difference (px x o) z) (from_zero x o) (λ e. Ok (with_polynomials (d ∷ e ∷ []) (with_condition zero_test at_first))) (Ok known) (difference_is (px x o) z (x_two x o) z_two) refl)

  abbrev zero_known : Known
  zero_known = record { conditions = zero_test ∷ []; polynomials = number (pos 1) ∷ lessened (number (pos 0)) 1 (px x o) 0 ∷ from_zero x o ∷ [] }

  abbrev nonzero_known : Known
  nonzero_known = record { conditions = not zero_test ∷ []; polynomials = number (pos 1) ∷ [] }

  -- `x == 0`
  pub zero_tested : (ds : List Define) → verdict [] ds r0 (choose zero_test r0 (r1 1)) (split zero_test same (one_reached x)) ≡ None
  zero_tested ds =
      fault_choice zero_test same (one_reached x) ds at_first zero_known nonzero_known r0 r0 (r1 1) (λ first. r0_plain zero_test first) (r0_plain zero_test true) (r1_plain 1 zero_test false) zero_pushed refl
      (fault_same ds zero_known r0) (one_reached_holds (not zero_test) refl ds)

  -- `x != 0`
  abbrev pub nonzero_test : CondTree
  nonzero_test = ne (unsigned_term x) (tree.number (pos 0))

  pub nonzero_tested : (ds : List Define) → verdict [] ds r0 (choose nonzero_test (r1 1) r0) (split nonzero_test (one_reached x) same) ≡ None
  nonzero_tested ds =
      fault_choice nonzero_test (one_reached x) same ds at_first (record { conditions = nonzero_test ∷ []; polynomials = number (pos 1) ∷ [] }) zero_known r0 (r1 1) r0 (λ first. r0_plain nonzero_test first) (r1_plain 1 nonzero_test true)
      (r0_plain nonzero_test false) refl zero_pushed (one_reached_holds nonzero_test refl ds) (fault_same ds zero_known r0)

  -- ---- a condition c that tells by l that x is at least n

  module _ (n : ℕ) (fits : n ≤ 2 ^ 32) where
    module _ (c : CondTree) (l : Polynomial) (l_known : IsKnown l) (reads : (g : Monomial → ℤ) → reading g l ≡ reading g (px x o) -ℤ pos n *ℤ g one) where
      under_reads : (g : Monomial → ℤ) → reading g (sum (once_of l) (once_of (n_less n))) ≡ reading g minus_one
      under_reads g =
          sum_reading g (once_of l) (once_of (n_less n))
          ∙ under_linear (reading g (once_of l)) (reading g (once_of (n_less n))) (reading g (px x o)) (reading g (number (pos n))) (pos n *ℤ g one) (g one) (reading g minus_one)
          (once_reading g l ∙ reads g) (once_reading g (n_less n) ∙ one_less_reading g (number (pos n)) (px x o)) (number_reading g (pos n)) (number_reading g (negsuc 0) ∙ minus_linear (g one))

      below_holds :
          (ds : List Define) (p q : AssertionTree)
          → fault (contradict (item 1 ∷ item 4 ∷ [])) ds (record { conditions = c ∷ same_x x o ∷ under n ∷ []; polynomials = number (pos 1) ∷ l ∷ y_less_x x o ∷ x_less_y x o ∷ n_less n ∷ [] }) p q ≡ None
      below_holds ds p q =
          let k : Known = record { conditions = c ∷ same_x x o ∷ under n ∷ []; polynomials = number (pos 1) ∷ l ∷ y_less_x x o ∷ x_less_y x o ∷ n_less n ∷ [] } in
          let i = once_known k.polynomials 1 l refl l_known in
          let j = once_known k.polynomials 4 (n_less n) refl (n_less_known n fits) in
          let w : List Item = item 1 ∷ item 4 ∷ [] in
          fault_contradict w ds k p q refl
          (contradicted w k (sum (once_of l) (once_of (n_less n))) (two_combined k.polynomials (item 1) (item 4) (once_of l) (once_of (n_less n)) i j)
          (found_equal (sum (once_of l) (once_of (n_less n))) minus_one (small_two (once_of l) (once_of (n_less n)) i.1 j.1).canonical small_minus_one.canonical under_reads))

      least_reached_holds : (ds : List Define) → fault least_reached ds (record { conditions = c ∷ []; polynomials = number (pos 1) ∷ l ∷ [] }) r0 (r1 n) ≡ None
      least_reached_holds ds =
          let s = same_x x o in
          let told : Known = record { conditions = c ∷ []; polynomials = number (pos 1) ∷ l ∷ [] } in
          let equal : Known = record { conditions = c ∷ same_x x o ∷ []; polynomials = number (pos 1) ∷ l ∷ y_less_x x o ∷ x_less_y x o ∷ [] } in
          let apart_known : Known = record { conditions = c ∷ same_x x o ∷ not (same_x x o) ∷ []; polynomials = number (pos 1) ∷ l ∷ y_less_x x o ∷ x_less_y x o ∷ [] } in
          let under_known : Known = record { conditions = c ∷ same_x x o ∷ under n ∷ []; polynomials = number (pos 1) ∷ l ∷ y_less_x x o ∷ x_less_y x o ∷ n_less n ∷ [] } in
          let below = contradict (item 1 ∷ item 4 ∷ []) in
          fault_assume (drop (never_apart 2 2 3 4) (drop below same)) ds told equal s m (r1 n) (equal_pushed x o told)
          (fault_drop (never_apart 2 2 3 4) (drop below same) ds equal apart_known s m (guard (least n) m) refl (never_apart_holds 2 2 3 4 apart_known ds (natural 0) infinity refl refl refl refl refl refl)
          (fault_drop below same ds equal under_known (least n) m m (under_pushed n fits equal) (below_holds ds (natural 0) infinity) (fault_same ds equal m)))

    -- `if (TEST) small else large`, and the other way round
    first_tested :
        (b c : CondTree) (l : Polynomial) (k : Known) (ds : List Define) → IsKnown l → ((g : Monomial → ℤ) → reading g l ≡ reading g (px x o) -ℤ pos n *ℤ g one)
        → push b at_first ≡ Ok k → push (not b) at_first ≡ Ok (record { conditions = c ∷ []; polynomials = number (pos 1) ∷ l ∷ [] })
        → verdict [] ds r0 (choose b r0 (r1 n)) (split b same least_reached) ≡ None
    first_tested b c l k ds l_known reads p q =
        fault_choice b same least_reached ds at_first k (record { conditions = c ∷ []; polynomials = number (pos 1) ∷ l ∷ [] }) r0 r0 (r1 n) (λ first. r0_plain b first) (r0_plain b true) (r1_plain n b false) p q
        (fault_same ds k r0) (least_reached_holds c l l_known reads ds)

    second_tested :
        (b c : CondTree) (l : Polynomial) (k : Known) (ds : List Define) → IsKnown l → ((g : Monomial → ℤ) → reading g l ≡ reading g (px x o) -ℤ pos n *ℤ g one)
        → push b at_first ≡ Ok (record { conditions = c ∷ []; polynomials = number (pos 1) ∷ l ∷ [] }) → push (not b) at_first ≡ Ok k
        → verdict [] ds r0 (choose b (r1 n) r0) (split b least_reached same) ≡ None
    second_tested b c l k ds l_known reads p q =
        fault_choice b least_reached same ds at_first (record { conditions = c ∷ []; polynomials = number (pos 1) ∷ l ∷ [] }) k r0 (r1 n) r0 (λ first. r0_plain b first) (r1_plain n b true) (r0_plain b false) p q
        (least_reached_holds c l l_known reads ds) (fault_same ds k r0)

    abbrev from_n : Polynomial
    from_n = x_less (px x o) n

    from_n_known : IsKnown from_n
    from_n_known = two_is_known from_n (two_difference (px x o) (number (pos n)) (x_one x o) (one_number n fits))

    from_n_reads : (g : Monomial → ℤ) → reading g from_n ≡ reading g (px x o) -ℤ pos n *ℤ g one
    from_n_reads g = less_number g (px x o) n

    -- `x < n`
    pub below_tested : (ds : List Define) → verdict [] ds r0 (choose (under n) r0 (r1 n)) (split (under n) same least_reached) ≡ None
    below_tested ds =
        first_tested (under n) (least n) from_n (record { conditions = under n ∷ []; polynomials = number (pos 1) ∷ n_less n ∷ [] }) ds from_n_known from_n_reads (under_pushed n fits at_first) (least_pushed x o n fits at_first)

    -- `n <= x`
    pub from_tested : (ds : List Define) → verdict [] ds r0 (choose (least n) (r1 n) r0) (split (least n) least_reached same) ≡ None
    from_tested ds =
        second_tested (least n) (least n) from_n (record { conditions = under n ∷ []; polynomials = number (pos 1) ∷ n_less n ∷ [] }) ds from_n_known from_n_reads (least_pushed x o n fits at_first) (under_pushed n fits at_first)

  -- ---- `x <= l`, and `l < x`

  module _ (l : ℕ) (fits : l + 1 ≤ 2 ^ 32) where
    abbrev above : Polynomial
    above = lessened (px x o) 1 (number (pos l)) 1

    abbrev at_most : CondTree
    at_most = le (unsigned_term x) (tree.number (pos l))

    abbrev more_than : CondTree
    more_than = lt (tree.number (pos l)) (unsigned_term x)

    l_fits : l ≤ 2 ^ 32
    l_fits = omega (arith, fits)

    above_known : IsKnown above
    above_known =
        small_more 3 (2 ^ 32 + 2 ^ 32 + 1) 1 4 (2 ^ 34) 1 above (omega arith) (omega arith) (omega arith) (small_one_less 1 (2 ^ 32) 1 (2 ^ 32) 1 (px x o) (number (pos l)) (x_one x o) (one_number l l_fits))

    above_reads : (g : Monomial → ℤ) → reading g above ≡ reading g (px x o) -ℤ pos (l + 1) *ℤ g one
    above_reads g =
        le_linear (reading g above) (reading g (px x o)) (pos (l + 1 - l) *ℤ g one) (reading g (number (pos l))) (pos l *ℤ g one) (pos (l + 1) *ℤ g one) (g one) (one_less_reading g (px x o) (number (pos l))) (number_reading g (pos l))
        (spread l (l + 1) (g one) (omega arith)) (ap (λ (k : ℕ). pos k *ℤ g one) (one_apart l) ∙ one_times (g one))

    at_most_pushed : push at_most at_first ≡ Ok (record { conditions = at_most ∷ []; polynomials = number (pos 1) ∷ lessened (number (pos l)) 1 (px x o) 0 ∷ [] })
    at_most_pushed =
        let d = lessened (number (pos l)) 1 (px x o) 0 in
        let k : Known = record { conditions = le (unsigned_term x) (tree.number (pos l)) ∷ []; polynomials = number (pos 1) ∷ lessened (number (pos l)) 1 (px x o) 0 ∷ [] } in
        bound (term_polynomial (tree.number (pos l))) (number (pos l)) (λ q. bind (difference q (px x o)) (λ e. Ok (with_polynomials (e ∷ []) (with_condition at_most at_first)))) (Ok k) (number_is l l_fits)
        (bound (difference (number (pos l)) (px x o)) d (λ e. Ok (with_polynomials (e ∷ []) (with_condition at_most at_first))) (Ok k) (difference_is (number (pos l)) (px x o) (one_is_two (number (pos l)) (one_number l l_fits)) (x_two x o)) refl)

    more_pushed : push more_than at_first ≡ Ok (record { conditions = more_than ∷ []; polynomials = number (pos 1) ∷ above ∷ [] })
    more_pushed =
        let k : Known = record { conditions = lt (tree.number (pos l)) (unsigned_term x) ∷ []; polynomials = number (pos 1) ∷ above ∷ [] } in
        bound (term_polynomial (tree.number (pos l))) (number (pos l)) (λ p. bind (limited (lessened (px x o) 1 p 1)) (λ e. Ok (with_polynomials (e ∷ []) (with_condition more_than at_first)))) (Ok k) (number_is l l_fits)
        (bound (limited above) above (λ e. Ok (with_polynomials (e ∷ []) (with_condition more_than at_first))) (Ok k) (known_limited above above_known) refl)

    pub at_most_tested : (ds : List Define) → verdict [] ds r0 (choose at_most r0 (r1 (l + 1))) (split at_most same least_reached) ≡ None
    at_most_tested ds =
        first_tested (l + 1) fits at_most more_than above (record { conditions = at_most ∷ []; polynomials = number (pos 1) ∷ lessened (number (pos l)) 1 (px x o) 0 ∷ [] }) ds above_known above_reads at_most_pushed more_pushed

    pub more_tested : (ds : List Define) → verdict [] ds r0 (choose more_than (r1 (l + 1)) r0) (split more_than least_reached same) ≡ None
    more_tested ds =
        second_tested (l + 1) fits more_than more_than above (record { conditions = at_most ∷ []; polynomials = number (pos 1) ∷ lessened (number (pos l)) 1 (px x o) 0 ∷ [] }) ds above_known above_reads more_pushed at_most_pushed

  -- ---- the second guard isn't needed

  pub guard_dropped_holds : (n : ℕ) → n ≤ 2 ^ 32 → (ds : List Define) (cs : List CondTree) → fault (guard_dropped (length cs)) ds (only cs) (r1 n) r0 ≡ None
  guard_dropped_holds n fits ds cs =
      let s = same_x x o in
      let equal : Known = record { conditions = cs ++ same_x x o ∷ []; polynomials = number (pos 1) ∷ y_less_x x o ∷ x_less_y x o ∷ [] } in
      let guarded : Known = record { conditions = (cs ++ same_x x o ∷ []) ++ least n ∷ []; polynomials = number (pos 1) ∷ y_less_x x o ∷ x_less_y x o ∷ x_less (px x o) n ∷ [] } in
      let apart_known : Known = record { conditions = ((cs ++ same_x x o ∷ []) ++ least n ∷ []) ++ not (same_x x o) ∷ []; polynomials = number (pos 1) ∷ y_less_x x o ∷ x_less_y x o ∷ x_less (px x o) n ∷ [] } in
      let c = never_apart (length cs + 2) 1 2 4 in
      fault_assume (assume (drop c same)) ds (only cs) equal s (guard (least n) m) r0 (equal_pushed x o (only cs))
      (fault_assume (drop c same) ds equal guarded (least n) m r0 (least_pushed x o n fits equal)
      (fault_drop c same ds guarded apart_known s m m refl (never_apart_holds (length cs + 2) 1 2 4 apart_known ds (natural 0) infinity (third_behind cs s (least n) (not s)) refl refl refl refl refl)
      (fault_same ds guarded m)))

  -- ---- what is shown under both guards, and under the first

  pub under_first :
      (c : CertTree) (ds : List Define) (cs : List CondTree) (q : AssertionTree)
      → fault c ds (record { conditions = cs ++ same_x x o ∷ []; polynomials = number (pos 1) ∷ y_less_x x o ∷ x_less_y x o ∷ [] }) m q ≡ None → fault (assume c) ds (only cs) r0 q ≡ None
  under_first c ds cs q h =
      fault_assume c ds (only cs) (record { conditions = cs ++ same_x x o ∷ []; polynomials = number (pos 1) ∷ y_less_x x o ∷ x_less_y x o ∷ [] }) (same_x x o) m q (equal_pushed x o (only cs)) h

  pub under_both :
      (c : CertTree) (n : ℕ) → n ≤ 2 ^ 32 → (ds : List Define) (cs : List CondTree) (q : AssertionTree)
      → fault c ds (record { conditions = (cs ++ same_x x o ∷ []) ++ least n ∷ []; polynomials = number (pos 1) ∷ y_less_x x o ∷ x_less_y x o ∷ x_less (px x o) n ∷ [] }) m q ≡ None
      → fault (assume (assume c)) ds (only cs) (r1 n) q ≡ None
  under_both c n fits ds cs q h =
      let equal : Known = record { conditions = cs ++ same_x x o ∷ []; polynomials = number (pos 1) ∷ y_less_x x o ∷ x_less_y x o ∷ [] } in
      let guarded : Known = record { conditions = (cs ++ same_x x o ∷ []) ++ least n ∷ []; polynomials = number (pos 1) ∷ y_less_x x o ∷ x_less_y x o ∷ x_less (px x o) n ∷ [] } in
      fault_assume (assume c) ds (only cs) equal (same_x x o) (guard (least n) m) q (equal_pushed x o (only cs))
      (fault_assume c ds equal guarded (least n) m q (least_pushed x o n fits equal) h)
