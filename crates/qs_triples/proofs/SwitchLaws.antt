-- What is needed before a switch is at least what is needed where it goes on.
use Rattle.std.proofs.Common.{◌≡◌, ℕ, ◌<◌, ◌==◌, Bool, true, false, if◌then◌else◌, List, [], ◌∷◌, Option, Some, None, refl, sym, ap, ◌∙◌, subst, arith}
use Rattle.std.specs.Prelude.{nat_lt}
use Rattle.std.specs.List.{list_all}
use Rattle.std.specs.Option.{option_or}
use Rattle.std.specs.Ordering.{int_eq}
use Rattle.std.proofs.lemmas.Bool.{and_parts}
use Rattle.std.proofs.lemmas.Bool.Decides.{nat_tests}
use Rattle.std.proofs.lemmas.Option.{same_Some}
use Rattle.qs_memory.specs.Values.{integer, has_type}
use Rattle.qs_memory.specs.Scalars.{is_integer}
use Rattle.qs_memory.specs.declared.scalar.Scalar.{Scalar}
use Rattle.qs_memory.specs.declared.scalar.Scalar.TheVariants as scalars
use Rattle.qs_assert.specs.Sameness.{same_assertion}
use Rattle.qs_assert.specs.Trees.{TermTree, AssertionTree}
use Rattle.qs_assert.specs.Values.{State, Extended, finite, greater, term_value, value, greatest_of}
use Rattle.qs_assert.proofs.SamenessLaws.{assertion_same}
use Rattle.qs_entail.specs.Meaning.{AtLeast}
use Rattle.qs_entail.proofs.Amounts.{at_least_itself, at_least_through, first_at_most, second_at_most}
use Rattle.qs_core.specs.declared.labels.CoreLabel.{CoreLabel}
use Rattle.qs_core.specs.declared.labels.CoreLabel.TheVariants.{Case, Default}
use Rattle.qs_core.specs.Fits.{label_fits}
use Rattle.qs_core.specs.Statements.{case_part, default_part, chosen_part}
use Rattle.qs_core.specs.Terms.{literal_value}
use Rattle.qs_triples.specs.Rules.{before_chosen, all_need, by_values, at_cases, by_term, by_labels}
use Rattle.qs_triples.proofs.ConditionLaws.{equal_numbered}
use Rattle.qs_triples.proofs.TermLaws.{numbered, size, literal_number}

typed_small : (s : Scalar) (n : ℕ) → is_integer s ≡ true → has_type s (integer n) ≡ true → n < size s
typed_small scalars.Char n i h = grind (arith, nat_tests, h)
typed_small scalars.Int n i h = grind (arith, nat_tests, h)
typed_small scalars.Unsigned n i h = grind (arith, nat_tests, h)
typed_small scalars.Pointer n i h = cc

turned : (m n : ℕ) → (n == m) ≡ (m == n)
turned m n = grind (arith, nat_tests)

chosen_is :
    (next : AssertionTree) (before : ℕ → AssertionTree) (o p : Option ℕ)
    → before_chosen (before_chosen next before p) before o ≡ before_chosen next before (option_or o p)
chosen_is next before None p = refl
chosen_is next before (Some part) p = refl

module _ (st : State) (before : ℕ → AssertionTree) (d : AssertionTree) where
  -- what the operand's term says of its bits, if it has a term
  abbrev pub Reads : Option TermTree → Scalar → (bits : ℕ) → Type 0
  Reads t s n = (u : TermTree) → t ≡ Some u → term_value u st ≡ numbered s n

  -- ---- where the same is needed at each case

  one_alike : (b : Bool) (p part : ℕ) (o : Option ℕ) → (if b then Some p else o) ≡ Some part → before p ≡ d → (o ≡ Some part → before part ≡ d) → before part ≡ d
  one_alike true p part o is here others = ap before (sym (same_Some p part is)) ∙ here
  one_alike false p part o is here others = others is

  all_alike : (labels : List CoreLabel) (n part : ℕ) → all_need d before labels ≡ true → case_part labels n ≡ Some part → before part ≡ d
  all_alike [] n part same is = cc
  all_alike (Case m p ∷ labels) n part same is =
      let two = and_parts (same_assertion (before p) d) (all_need d before labels) same in
      one_alike (m == n) p part (case_part labels n) is (assertion_same (before p) d two.0) (all_alike labels n part two.1)
  all_alike (Default p ∷ labels) n part same is = all_alike labels n part same is

  alike : (labels : List CoreLabel) (n : ℕ) → all_need d before labels ≡ true → AtLeast (value d st) (value (before_chosen d before (case_part labels n)) st)
  alike labels n same = by (case_part labels n) refl
    where
      by : (o : Option ℕ) → case_part labels n ≡ o → AtLeast (value d st) (value (before_chosen d before o) st)
      by None is = at_least_itself (value d st)
      by (Some part) is = subst (λ (a : AssertionTree). AtLeast (value d st) (value a st)) (sym (all_alike labels n part same is)) (at_least_itself (value d st))

  -- ---- where the operand has a term

  one_decided : (b : Bool) (p : ℕ) (o : Option ℕ) (v : Extended) → v ≡ value (before_chosen d before o) st → (if b then value (before p) st else v) ≡ value (before_chosen d before (if b then Some p else o)) st
  one_decided true p o v is = refl
  one_decided false p o v is = is

  decided :
      (s : Scalar) (t : TermTree) (parts n : ℕ) (labels : List CoreLabel) → is_integer s ≡ true → n < size s → term_value t st ≡ numbered s n
      → list_all (label_fits s parts) labels ≡ true → value (by_values d before s t labels) st ≡ value (before_chosen d before (case_part labels n)) st
  decided s t parts n [] i small reads fit = refl
  decided s t parts n (Case m p ∷ labels) i small reads fit =
      let two = and_parts (label_fits s parts (Case m p)) (list_all (label_fits s parts) labels) fit in
      let typed = (and_parts (has_type s (integer m)) (nat_lt p parts) two.0).0 in
      let same : int_eq (term_value t st) (literal_value s m) ≡ (m == n) =
      ap (λ z. int_eq z (literal_value s m)) reads ∙ ap (int_eq (numbered s n)) (literal_number s m i typed)
      ∙ equal_numbered s n m i small (typed_small s m i typed) ∙ turned m n in
      ap (λ b. if b then value (before p) st else value (by_values d before s t labels) st) same
      ∙ one_decided (m == n) p (case_part labels n) (value (by_values d before s t labels) st) (decided s t parts n labels i small reads two.1)
  decided s t parts n (Default p ∷ labels) i small reads fit =
      let two = and_parts (label_fits s parts (Default p)) (list_all (label_fits s parts) labels) fit in
      decided s t parts n labels i small reads two.1

  -- ---- where it has none

  one_listed : (b : Bool) (p : ℕ) (o : Option ℕ) (v : Extended) → AtLeast v (value (before_chosen d before o) st) → AtLeast (greater (value (before p) st) v) (value (before_chosen d before (if b then Some p else o)) st)
  one_listed true p o v h = first_at_most (value (before p) st) v
  one_listed false p o v h = at_least_through (greater (value (before p) st) v) v _ (second_at_most (value (before p) st) v) h

  listed : (labels : List CoreLabel) (n : ℕ) → AtLeast (greatest_of (at_cases d before labels) st) (value (before_chosen d before (case_part labels n)) st)
  listed [] n = first_at_most (value d st) (finite 0)
  listed (Case m p ∷ labels) n = one_listed (m == n) p (case_part labels n) (greatest_of (at_cases d before labels) st) (listed labels n)
  listed (Default p ∷ labels) n = listed labels n

  -- ---- in each case

  by_term_is_enough :
      (s : Scalar) (t : Option TermTree) (parts n : ℕ) (labels : List CoreLabel) → is_integer s ≡ true → n < size s → Reads t s n
      → list_all (label_fits s parts) labels ≡ true → AtLeast (value (by_term d before s t labels) st) (value (before_chosen d before (case_part labels n)) st)
  by_term_is_enough s None parts n labels i small reads fit = listed labels n
  by_term_is_enough s (Some t) parts n labels i small reads fit =
      subst (λ (v : Extended). AtLeast v (value (before_chosen d before (case_part labels n)) st))
      (sym (decided s t parts n labels i small (reads t refl) fit)) (at_least_itself _)

  labels_are_enough :
      (s : Scalar) (t : Option TermTree) (parts n : ℕ) (labels : List CoreLabel) → is_integer s ≡ true → n < size s → Reads t s n
      → list_all (label_fits s parts) labels ≡ true → AtLeast (value (by_labels d before s t labels) st) (value (before_chosen d before (case_part labels n)) st)
  labels_are_enough s t parts n labels i small reads fit = by (all_need d before labels) refl
    where
      by : (b : Bool) → all_need d before labels ≡ b → AtLeast (value (if b then d else by_term d before s t labels) st) (value (before_chosen d before (case_part labels n)) st)
      by true same = alike labels n same
      by false same = by_term_is_enough s t parts n labels i small reads fit

-- where the operand has these bits
pub enough_at_chosen :
    (st : State) (next : AssertionTree) (before : ℕ → AssertionTree) (s : Scalar) (t : Option TermTree) (parts n : ℕ) (labels : List CoreLabel)
    → is_integer s ≡ true → has_type s (integer n) ≡ true → ((u : TermTree) → t ≡ Some u → term_value u st ≡ numbered s n)
    → list_all (label_fits s parts) labels ≡ true
    → AtLeast (value (by_labels (before_chosen next before (default_part labels)) before s t labels) st) (value (before_chosen next before (chosen_part labels n)) st)
enough_at_chosen st next before s t parts n labels i typed reads fit =
    subst (λ (a : AssertionTree). AtLeast (value (by_labels (before_chosen next before (default_part labels)) before s t labels) st) (value a st))
    (chosen_is next before (case_part labels n) (default_part labels))
    (labels_are_enough st before (before_chosen next before (default_part labels)) s t parts n labels i (typed_small s n i typed) reads fit)
