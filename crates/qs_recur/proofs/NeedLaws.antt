-- What functions with an entry need is made of numbers, costs, sums, maxima, and costs as often as a parameter says.
-- Where the parameters are as they were at the entry, what was needed there is left.
use Rattle.std.proofs.Common.{◌≡◌, ◌<◌, ◌+◌, ◌*◌, ℕ, suc, refl, sym, ap, ◌∙◌, subst, arith, Bool, true, false, List, [], ◌∷◌, ◌++◌, length, Ok, None}
use Rattle.std.specs.Prelude.{pos, if◌then◌else◌}
use Rattle.std.specs.List.{list_any}
use Rattle.qs_assert.specs.declared.define.Define.{Define}
use Rattle.qs_assert.specs.declared.variable.Var.{Var}
use Rattle.qs_assert.specs.declared.variable.VarKind.TheVariants as kinds
use Rattle.qs_assert.specs.Images.{Images, term_image, assertion_image, assertions_image}
use Rattle.qs_assert.specs.Substitution.{same_variable}
use Rattle.qs_assert.specs.Trees.{TermTree, number, variable, add, sub, mul, div, wrapu, wraps, bits, CondTree, AssertionTree, natural, infinity, cost, num, total, greatest, product, guard, choose, named, AssertionTrees, no_assertions, assertion_and, assertions_of}
use Rattle.qs_assert.specs.Variables.{term_variables, variables, all_variables}
use Rattle.qs_poly.specs.Polynomials.{Polynomial}
use Rattle.qs_entail.specs.Building.{at}
use Rattle.qs_entail.specs.Certificates.{same, pick, all, parts}
use Rattle.qs_entail.specs.Faults.{count, count_certs, member, branch, branches}
use Rattle.qs_entail.specs.Pushing.{Known}
use Rattle.qs_entail.specs.Verdicts.{fault, faults_all, faults_parts}
use Rattle.qs_triples.specs.Mentions.{old_kind, as_old}
use Rattle.qs_recur.proofs.KeptLaws.{value_kept_holds, bits_kept_holds}
use Rattle.qs_recur.proofs.StepLaws.{fault_same, fault_pick, fault_all, fault_parts, one_more_member, one_more_summand}
use Rattle.qs_recur.proofs.WayLaws.{y_less_x, x_less_y}
use Rattle.qs_recur.specs.Certificates.{value_kept_at, bits_kept_at}
use Rattle.qs_recur.specs.Needs.{unsigned, costs}
use Rattle.qs_recur.specs.Passing.{place_of, known_by, less_at, more_at, is_closed, costs_left, all_left, parts_left, members_left}

-- ---- the same of each variable

abbrev pub Every : (Var → Type 0) → List Var → Type 0
Every P [] = Unit {0}
Every P (x ∷ xs) = P x × Every P xs

pub every_first : (P : Var → Type 0) (xs ys : List Var) → Every P (xs ++ ys) → Every P xs
every_first P [] ys h = tt
every_first P (x ∷ xs) ys h = (h.0, every_first P xs ys h.1)

pub every_second : (P : Var → Type 0) (xs ys : List Var) → Every P (xs ++ ys) → Every P ys
every_second P [] ys h = h
every_second P (x ∷ xs) ys h = every_second P xs ys h.1

pub every_both : (P : Var → Type 0) (xs ys : List Var) → Every P xs → Every P ys → Every P (xs ++ ys)
every_both P [] ys h i = i
every_both P (x ∷ xs) ys h i = (h.0, every_both P xs ys h.1 i)

none_at_all : (P : Var → Type 0) (xs : List Var) → is_closed xs ≡ true → Every P xs
none_at_all P [] h = tt
none_at_all P (x ∷ xs) h = cc

-- ---- what needs are made of

-- a plain parameter of type `unsigned`
pub record IsCounter (v : Var) : Type 0 where
  pub parameter : ℕ
  pub is : v ≡ unsigned (kinds.Plain parameter)

-- their variables are such
module _ (P : Var → Type 0) where
  abbrev pub IsCount : TermTree → Type 0
  IsCount (number k) = Unit {0}
  IsCount (variable v) = P v
  IsCount (add ts) = ⊥
  IsCount (sub t u) = ⊥
  IsCount (mul ts) = ⊥
  IsCount (div t k) = ⊥
  IsCount (wrapu t) = ⊥
  IsCount (wraps t) = ⊥
  IsCount (bits t) = ⊥

  -- a number, a variable, or the length of one in bits
  abbrev pub IsMeasure : TermTree → Type 0
  IsMeasure (number k) = Unit {0}
  IsMeasure (variable v) = P v
  IsMeasure (bits t) = IsCount t
  IsMeasure (add ts) = ⊥
  IsMeasure (sub t u) = ⊥
  IsMeasure (mul ts) = ⊥
  IsMeasure (div t k) = ⊥
  IsMeasure (wrapu t) = ⊥
  IsMeasure (wraps t) = ⊥

  -- the factors are a number and the cost of a function
  pub record IsCosts (factors : AssertionTrees) : Type 0 where
    pub term : TermTree
    pub function : ℕ
    pub is : factors ≡ assertions_of (num term ∷ cost function ∷ [])
    pub measures : IsMeasure term

  abbrev mutual
    pub IsNeed : AssertionTree → Type 0
    IsNeed (natural n) = n ≡ 0
    IsNeed infinity = ⊥
    IsNeed (cost f) = Unit {0}
    IsNeed (num t) = ⊥
    IsNeed (total summands) = AllNeeds summands
    IsNeed (greatest members) = AllNeeds members
    IsNeed (product factors) = IsCosts factors
    IsNeed (guard c a) = ⊥
    IsNeed (choose c a b) = ⊥
    IsNeed (named n) = ⊥

    pub AllNeeds : AssertionTrees → Type 0
    AllNeeds no_assertions = Unit {0}
    AllNeeds (assertion_and a others) = IsNeed a × AllNeeds others

  -- ---- no conditional stands in them

  mutual
    pub need_branch : (c : CondTree) (first : Bool) (a : AssertionTree) → IsNeed a → branch c first a ≡ a
    need_branch c first (natural n) h = refl
    need_branch c first infinity h = absurd h
    need_branch c first (cost f) h = refl
    need_branch c first (num t) h = refl
    need_branch c first (total summands) h = ap total (need_branches c first summands h)
    need_branch c first (greatest members) h = ap greatest (need_branches c first members h)
    need_branch c first (product factors) h = subst (λ (qs : AssertionTrees). product (branches c first qs) ≡ product qs) (sym h.is) refl
    need_branch c first (guard d a) h = absurd h
    need_branch c first (choose d a b) h = absurd h
    need_branch c first (named n) h = refl

    need_branches : (c : CondTree) (first : Bool) (others : AssertionTrees) → AllNeeds others → branches c first others ≡ others
    need_branches c first no_assertions h = refl
    need_branches c first (assertion_and a others) h =
        ap (λ (b : AssertionTree). assertion_and b (branches c first others)) (need_branch c first a h.0) ∙ ap (λ (b : AssertionTrees). assertion_and a b) (need_branches c first others h.1)

  -- ---- their variables

  count_variables : (t : TermTree) → IsCount t → Every P (term_variables t)
  count_variables (number k) h = tt
  count_variables (variable v) h = (h, tt)
  count_variables (add ts) h = absurd h
  count_variables (sub t u) h = absurd h
  count_variables (mul ts) h = absurd h
  count_variables (div t k) h = absurd h
  count_variables (wrapu t) h = absurd h
  count_variables (wraps t) h = absurd h
  count_variables (bits t) h = absurd h

  measure_variables : (t : TermTree) → IsMeasure t → Every P (term_variables t)
  measure_variables (number k) h = tt
  measure_variables (variable v) h = (h, tt)
  measure_variables (bits t) h = count_variables t h
  measure_variables (add ts) h = absurd h
  measure_variables (sub t u) h = absurd h
  measure_variables (mul ts) h = absurd h
  measure_variables (div t k) h = absurd h
  measure_variables (wrapu t) h = absurd h
  measure_variables (wraps t) h = absurd h

  mutual
    pub need_variables : (a : AssertionTree) → IsNeed a → Every P (variables a)
    need_variables (natural n) h = tt
    need_variables infinity h = absurd h
    need_variables (cost f) h = tt
    need_variables (num t) h = absurd h
    need_variables (total summands) h = needs_variables summands h
    need_variables (greatest members) h = needs_variables members h
    need_variables (product factors) h = subst (λ (qs : AssertionTrees). Every P (all_variables qs)) (sym h.is) (every_both P (term_variables h.term) [] (measure_variables h.term h.measures) tt)
    need_variables (guard c a) h = absurd h
    need_variables (choose c a b) h = absurd h
    need_variables (named n) h = absurd h

    pub needs_variables : (others : AssertionTrees) → AllNeeds others → Every P (all_variables others)
    needs_variables no_assertions h = tt
    needs_variables (assertion_and a others) h = every_both P (variables a) (all_variables others) (need_variables a h.0) (needs_variables others h.1)

  -- ---- images that leave their variables

  module _ (m : Images) where
    abbrev pub Stays : Var → Type 0
    Stays v = m v ≡ variable v

    count_stays : (t : TermTree) → IsCount t → Every Stays (term_variables t) → term_image m t ≡ t
    count_stays (number k) n h = refl
    count_stays (variable v) n h = h.0
    count_stays (add ts) n h = absurd n
    count_stays (sub t u) n h = absurd n
    count_stays (mul ts) n h = absurd n
    count_stays (div t k) n h = absurd n
    count_stays (wrapu t) n h = absurd n
    count_stays (wraps t) n h = absurd n
    count_stays (bits t) n h = absurd n

    measure_stays : (t : TermTree) → IsMeasure t → Every Stays (term_variables t) → term_image m t ≡ t
    measure_stays (number k) n h = refl
    measure_stays (variable v) n h = h.0
    measure_stays (bits t) n h = ap bits (count_stays t n h)
    measure_stays (add ts) n h = absurd n
    measure_stays (sub t u) n h = absurd n
    measure_stays (mul ts) n h = absurd n
    measure_stays (div t k) n h = absurd n
    measure_stays (wrapu t) n h = absurd n
    measure_stays (wraps t) n h = absurd n

    pub costs_stay : (t : TermTree) (f : ℕ) → IsMeasure t → Every Stays (all_variables (assertions_of (num t ∷ cost f ∷ []))) → costs (term_image m t) f ≡ costs t f
    costs_stay t f n h = ap (λ (t : TermTree). costs t f) (measure_stays t n (every_first Stays (term_variables t) [] h))

    product_stays : (factors : AssertionTrees) (n : IsCosts factors) → Every Stays (all_variables factors) → product (assertions_image m factors) ≡ product factors
    product_stays factors n h =
        subst (λ (qs : AssertionTrees). Every Stays (all_variables qs) → product (assertions_image m qs) ≡ product qs) (sym n.is) (costs_stay n.term n.function n.measures) h

    mutual
      pub need_stays : (a : AssertionTree) → IsNeed a → Every Stays (variables a) → assertion_image m a ≡ a
      need_stays (natural k) n h = refl
      need_stays infinity n h = absurd n
      need_stays (cost f) n h = refl
      need_stays (num t) n h = absurd n
      need_stays (total summands) n h = ap total (needs_stay summands n h)
      need_stays (greatest members) n h = ap greatest (needs_stay members n h)
      need_stays (product factors) n h = product_stays factors n h
      need_stays (guard c a) n h = absurd n
      need_stays (choose c a b) n h = absurd n
      need_stays (named k) n h = absurd n

      pub needs_stay : (others : AssertionTrees) → AllNeeds others → Every Stays (all_variables others) → assertions_image m others ≡ others
      needs_stay no_assertions n h = refl
      needs_stay (assertion_and a others) n h =
          ap (λ (b : AssertionTree). assertion_and b (assertions_image m others)) (need_stays a n.0 (every_first Stays (variables a) (all_variables others) h))
          ∙ ap (λ (b : AssertionTrees). assertion_and a b) (needs_stay others n.1 (every_second Stays (variables a) (all_variables others) h))

-- ---- more of their variables

module _ (P R Q : Var → Type 0) (both : (v : Var) → P v → R v → Q v) where
  count_with : (t : TermTree) → IsCount P t → Every R (term_variables t) → IsCount Q t
  count_with (number k) h e = tt
  count_with (variable v) h e = both v h e.0
  count_with (add ts) h e = absurd h
  count_with (sub t u) h e = absurd h
  count_with (mul ts) h e = absurd h
  count_with (div t k) h e = absurd h
  count_with (wrapu t) h e = absurd h
  count_with (wraps t) h e = absurd h
  count_with (bits t) h e = absurd h

  measure_with : (t : TermTree) → IsMeasure P t → Every R (term_variables t) → IsMeasure Q t
  measure_with (number k) h e = tt
  measure_with (variable v) h e = both v h e.0
  measure_with (bits t) h e = count_with t h e
  measure_with (add ts) h e = absurd h
  measure_with (sub t u) h e = absurd h
  measure_with (mul ts) h e = absurd h
  measure_with (div t k) h e = absurd h
  measure_with (wrapu t) h e = absurd h
  measure_with (wraps t) h e = absurd h

  mutual
    pub need_with : (a : AssertionTree) → IsNeed P a → Every R (variables a) → IsNeed Q a
    need_with (natural k) h e = h
    need_with infinity h e = absurd h
    need_with (cost f) h e = tt
    need_with (num t) h e = absurd h
    need_with (total summands) h e = needs_with summands h e
    need_with (greatest members) h e = needs_with members h e
    need_with (product factors) h e = record {
      term = h.term;
      function = h.function;
      is = h.is;
      measures = measure_with h.term h.measures (every_first R (term_variables h.term) [] (subst (λ (qs : AssertionTrees). Every R (all_variables qs)) h.is e));
    }
    need_with (guard c a) h e = absurd h
    need_with (choose c a b) h e = absurd h
    need_with (named k) h e = absurd h

    needs_with : (others : AssertionTrees) → AllNeeds P others → Every R (all_variables others) → AllNeeds Q others
    needs_with no_assertions h e = tt
    needs_with (assertion_and a others) h e = (
      need_with a h.0 (every_first R (variables a) (all_variables others) e),
      needs_with others h.1 (every_second R (variables a) (all_variables others) e),
    )

-- ---- images of numbers and variables

module _ (P Q : Var → Type 0) (m : Images) (change : (v : Var) → P v → IsCount Q (m v)) where
  count_measures : (t : TermTree) → IsCount Q t → IsMeasure Q t
  count_measures (number k) h = tt
  count_measures (variable v) h = h
  count_measures (add ts) h = absurd h
  count_measures (sub t u) h = absurd h
  count_measures (mul ts) h = absurd h
  count_measures (div t k) h = absurd h
  count_measures (wrapu t) h = absurd h
  count_measures (wraps t) h = absurd h
  count_measures (bits t) h = absurd h

  count_image : (t : TermTree) → IsCount P t → IsCount Q (term_image m t)
  count_image (number k) h = tt
  count_image (variable v) h = change v h
  count_image (add ts) h = absurd h
  count_image (sub t u) h = absurd h
  count_image (mul ts) h = absurd h
  count_image (div t k) h = absurd h
  count_image (wrapu t) h = absurd h
  count_image (wraps t) h = absurd h
  count_image (bits t) h = absurd h

  measure_image : (t : TermTree) → IsMeasure P t → IsMeasure Q (term_image m t)
  measure_image (number k) h = tt
  measure_image (variable v) h = count_measures (m v) (change v h)
  measure_image (bits t) h = count_image t h
  measure_image (add ts) h = absurd h
  measure_image (sub t u) h = absurd h
  measure_image (mul ts) h = absurd h
  measure_image (div t k) h = absurd h
  measure_image (wrapu t) h = absurd h
  measure_image (wraps t) h = absurd h

  mutual
    pub need_image : (a : AssertionTree) → IsNeed P a → IsNeed Q (assertion_image m a)
    need_image (natural k) h = h
    need_image infinity h = absurd h
    need_image (cost f) h = tt
    need_image (num t) h = absurd h
    need_image (total summands) h = needs_image summands h
    need_image (greatest members) h = needs_image members h
    need_image (product factors) h = record { term = term_image m h.term; function = h.function; is = ap (assertions_image m) h.is; measures = measure_image h.term h.measures }
    need_image (guard c a) h = absurd h
    need_image (choose c a b) h = absurd h
    need_image (named k) h = absurd h

    needs_image : (others : AssertionTrees) → AllNeeds P others → AllNeeds Q (assertions_image m others)
    needs_image no_assertions h = tt
    needs_image (assertion_and a others) h = (need_image a h.0, needs_image others h.1)

-- ---- what was needed at the entry is left

abbrev pub is_in : Var → List Var → Bool
is_in v xs = list_any (λ y. same_variable y v) xs

-- the polynomials of each guard are known
pub record HasPlaces (l : List Polynomial) (xs : List Var) : Type 0 where
  pub length_is : length l ≡ known_by xs
  pub less : (v : Var) → is_in v xs ≡ true → at l (pos (less_at v xs)) ≡ y_less_x v.kind (old_kind v.kind)
  pub more : (v : Var) → is_in v xs ≡ true → at l (pos (more_at v xs)) ≡ x_less_y v.kind (old_kind v.kind)
  pub low : (v : Var) → is_in v xs ≡ true → place_of v xs < length xs

less_low : (p n m : ℕ) → p < n → m ≡ 1 + 2 * n → 1 + 2 * p < m
less_low p n m h e = omega (arith, h, e)

more_low : (p n m : ℕ) → p < n → m ≡ 1 + 2 * n → 2 + 2 * p < m
more_low p n m h e = omega (arith, h, e)

count_images : (m : Images) (others : AssertionTrees) → count (assertions_image m others) ≡ count others
count_images m no_assertions = refl
count_images m (assertion_and a others) = ap suc (count_images m others)

module _ (P : Var → Type 0) (counters : (v : Var) → P v → IsCounter v) (xs : List Var) (l : List Polynomial) (places : HasPlaces l xs) (cs : List CondTree) (ds : List Define) where
  abbrev k : Known
  k = record { conditions = cs; polynomials = l }

  abbrev pub Kept : Var → Type 0
  Kept v = is_in v xs ≡ true

  value_left : (v : Var) (f : ℕ) → P v → Kept v → fault (costs_left xs f (variable v)) ds k (costs (variable v) f) (costs (as_old v) f) ≡ None
  value_left v f c h =
      subst (λ (v : Var). Kept v → fault (costs_left xs f (variable v)) ds k (costs (variable v) f) (costs (as_old v) f) ≡ None) (sym (counters v c).is)
      (λ (h : Kept (unsigned (kinds.Plain (counters v c).parameter))).
      let w = unsigned (kinds.Plain (counters v c).parameter) in
      let p = places.low w h in
      subst (λ (n : ℕ). fault (value_kept_at n (less_at w xs) (more_at w xs) f w.kind (old_kind w.kind)) ds k (costs (variable w) f) (costs (as_old w) f) ≡ None) places.length_is
      (value_kept_holds w.kind (old_kind w.kind) f l (less_at w xs) (more_at w xs) (less_low (place_of w xs) (length xs) (length l) p places.length_is) (more_low (place_of w xs) (length xs) (length l) p places.length_is) (places.less w h) (places.more w h) cs ds))
      h

  length_left : (v : Var) (f : ℕ) → P v → Kept v → fault (costs_left xs f (bits (variable v))) ds k (costs (bits (variable v)) f) (costs (bits (as_old v)) f) ≡ None
  length_left v f c h =
      subst (λ (v : Var). Kept v → fault (costs_left xs f (bits (variable v))) ds k (costs (bits (variable v)) f) (costs (bits (as_old v)) f) ≡ None) (sym (counters v c).is)
      (λ (h : Kept (unsigned (kinds.Plain (counters v c).parameter))).
      let w = unsigned (kinds.Plain (counters v c).parameter) in
      let p = places.low w h in
      subst (λ (n : ℕ). fault (bits_kept_at n (more_at w xs) f w.kind (old_kind w.kind)) ds k (costs (bits (variable w)) f) (costs (bits (as_old w)) f) ≡ None) places.length_is
      (bits_kept_holds w.kind (old_kind w.kind) f l (more_at w xs) (more_low (place_of w xs) (length xs) (length l) p places.length_is) (places.more w h) cs ds))
      h

  bits_hold : (t : TermTree) (f : ℕ) → IsCount P t → Every Kept (term_variables t) → fault (costs_left xs f (bits t)) ds k (costs (bits t) f) (costs (bits (term_image as_old t)) f) ≡ None
  bits_hold (number n) f c h = fault_same ds k (costs (bits (number n)) f)
  bits_hold (variable v) f c h = length_left v f c h.0
  bits_hold (add ts) f c h = absurd c
  bits_hold (sub t u) f c h = absurd c
  bits_hold (mul ts) f c h = absurd c
  bits_hold (div t n) f c h = absurd c
  bits_hold (wrapu t) f c h = absurd c
  bits_hold (wraps t) f c h = absurd c
  bits_hold (bits t) f c h = absurd c

  costs_hold : (t : TermTree) (f : ℕ) → IsMeasure P t → Every Kept (term_variables t) → fault (costs_left xs f t) ds k (costs t f) (costs (term_image as_old t) f) ≡ None
  costs_hold (number n) f c h = fault_same ds k (costs (number n) f)
  costs_hold (variable v) f c h = value_left v f c h.0
  costs_hold (bits t) f c h = bits_hold t f c h
  costs_hold (add ts) f c h = absurd c
  costs_hold (sub t u) f c h = absurd c
  costs_hold (mul ts) f c h = absurd c
  costs_hold (div t n) f c h = absurd c
  costs_hold (wrapu t) f c h = absurd c
  costs_hold (wraps t) f c h = absurd c

  product_of : (t : TermTree) (f : ℕ) → IsMeasure P t → Every Kept (all_variables (assertions_of (num t ∷ cost f ∷ []))) → fault (all_left xs (costs t f)) ds k (costs t f) (costs (term_image as_old t) f) ≡ None
  product_of t f c h = by (is_closed (all_variables (assertions_of (num t ∷ cost f ∷ [])))) refl
    where
      by : (b : Bool) → is_closed (all_variables (assertions_of (num t ∷ cost f ∷ []))) ≡ b → fault (if b then same else costs_left xs f t) ds k (costs t f) (costs (term_image as_old t) f) ≡ None
      by true e =
          ap (λ (a : AssertionTree). fault same ds k (costs t f) a) (costs_stay P as_old t f c (none_at_all (Stays P as_old) (all_variables (assertions_of (num t ∷ cost f ∷ []))) e)) ∙ fault_same ds k (costs t f)
      by false e = costs_hold t f c (every_first Kept (term_variables t) [] h)

  product_left : (factors : AssertionTrees) (n : IsCosts P factors) → Every Kept (all_variables factors) → fault (all_left xs (product factors)) ds k (product factors) (product (assertions_image as_old factors)) ≡ None
  product_left factors n h =
      subst (λ (qs : AssertionTrees). Every Kept (all_variables qs) → fault (all_left xs (product qs)) ds k (product qs) (product (assertions_image as_old qs)) ≡ None) (sym n.is) (product_of n.term n.function n.measures) h

  count_parts : (others : AssertionTrees) → count_certs (parts_left xs others) ≡ count others
  count_parts no_assertions = refl
  count_parts (assertion_and a others) = ap suc (count_parts others)

  count_members : (i : ℕ) (members : AssertionTrees) → count_certs (members_left xs i members) ≡ count members
  count_members i no_assertions = refl
  count_members i (assertion_and a members) = ap suc (count_members (suc i) members)

  abbrev FromHere : AssertionTrees → (i : ℕ) → AssertionTrees → Type 0
  FromHere whole i others = (j : ℕ) → member whole (i + j) ≡ member others j

  from_first : (members : AssertionTrees) → FromHere members 0 members
  from_first members j = ap (member members) (itself j)
    where
      itself : (j : ℕ) → 0 + j ≡ j
      itself j = omega arith

  here : (whole others : AssertionTrees) (a : AssertionTree) (i : ℕ) → FromHere whole i (assertion_and a others) → member whole i ≡ Ok a
  here whole others a i h = ap (member whole) (nothing_more i) ∙ h 0
    where
      nothing_more : (i : ℕ) → i ≡ i + 0
      nothing_more i = omega arith

  behind : (whole others : AssertionTrees) (a : AssertionTree) (i : ℕ) → FromHere whole i (assertion_and a others) → FromHere whole (suc i) others
  behind whole others a i h j = ap (member whole) (one_more i j) ∙ h (suc j)
    where
      one_more : (i j : ℕ) → suc i + j ≡ i + suc j
      one_more i j = omega arith

  mutual
    pub need_left : (a : AssertionTree) → IsNeed P a → Every Kept (variables a) → fault (all_left xs a) ds k a (assertion_image as_old a) ≡ None
    need_left (natural n) c h = fault_same ds k (natural n)
    need_left infinity c h = absurd c
    need_left (cost f) c h = fault_same ds k (cost f)
    need_left (num t) c h = absurd c
    need_left (total summands) c h = by (is_closed (all_variables summands)) refl (needs_left 0 summands c h)
      where
        by : (b : Bool) → is_closed (all_variables summands) ≡ b → faults_parts (parts_left xs summands) 0 ds k summands (assertions_image as_old summands) ≡ None → fault (if b then same else parts (parts_left xs summands)) ds k (total summands) (total (assertions_image as_old summands)) ≡ None
        by true e rest = ap (λ (qs : AssertionTrees). fault same ds k (total summands) (total qs)) (needs_stay P as_old summands c (none_at_all (Stays P as_old) (all_variables summands) e)) ∙ fault_same ds k (total summands)
        by false e rest = fault_parts (parts_left xs summands) ds k summands (assertions_image as_old summands) (count_parts summands) (count_parts summands ∙ sym (count_images as_old summands)) rest
    need_left (greatest members) c h = by (is_closed (all_variables members)) refl (each_left members 0 members (λ j. from_first members j) c h)
      where
        by : (b : Bool) → is_closed (all_variables members) ≡ b → faults_all (members_left xs 0 members) 0 ds k (greatest members) (assertions_image as_old members) ≡ None → fault (if b then same else all (members_left xs 0 members)) ds k (greatest members) (greatest (assertions_image as_old members)) ≡ None
        by true e rest = ap (λ (qs : AssertionTrees). fault same ds k (greatest members) (greatest qs)) (needs_stay P as_old members c (none_at_all (Stays P as_old) (all_variables members) e)) ∙ fault_same ds k (greatest members)
        by false e rest = fault_all (members_left xs 0 members) ds k (greatest members) (assertions_image as_old members) (count_members 0 members ∙ sym (count_images as_old members)) rest
    need_left (product factors) c h = product_left factors c h
    need_left (guard b a) c h = absurd c
    need_left (choose b x y) c h = absurd c
    need_left (named n) c h = absurd c

    needs_left : (i : ℕ) (others : AssertionTrees) → AllNeeds P others → Every Kept (all_variables others) → faults_parts (parts_left xs others) i ds k others (assertions_image as_old others) ≡ None
    needs_left i no_assertions c h = refl
    needs_left i (assertion_and a others) c h =
        one_more_summand i (all_left xs a) (parts_left xs others) ds k a (assertion_image as_old a) others (assertions_image as_old others) (need_left a c.0 (every_first Kept (variables a) (all_variables others) h))
        (needs_left (suc i) others c.1 (every_second Kept (variables a) (all_variables others) h))

    each_left :
        (whole : AssertionTrees) (i : ℕ) (others : AssertionTrees) → FromHere whole i others → AllNeeds P others → Every Kept (all_variables others)
        → faults_all (members_left xs i others) i ds k (greatest whole) (assertions_image as_old others) ≡ None
    each_left whole i no_assertions from c h = refl
    each_left whole i (assertion_and a others) from c h =
        one_more_member i (pick (pos i) (all_left xs a)) (members_left xs (suc i) others) ds k (greatest whole) (assertion_image as_old a) (assertions_image as_old others)
        (fault_pick (all_left xs a) ds k whole i a (assertion_image as_old a) (here whole others a i from) (need_left a c.0 (every_first Kept (variables a) (all_variables others) h)))
        (each_left whole (suc i) others (behind whole others a i from) c.1 (every_second Kept (variables a) (all_variables others) h))
