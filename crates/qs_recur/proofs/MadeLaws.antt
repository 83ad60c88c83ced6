-- What each function with an entry needs is made so, along an order in which callees stand first; and so each entry is derived.
use Rattle.std.proofs.Common.{◌≡◌, ◌⊎◌, inl, inr, ℕ, refl, sym, ap, ◌∙◌, subst, Bool, true, false, List, [], ◌∷◌, Some, None}
use Rattle.std.specs.Prelude.{◌&&◌, if◌then◌else◌, Option, option_map}
use Rattle.std.specs.List.{slice_get, list_any}
use Rattle.std.proofs.lemmas.Bool.{both_ways, eq-eqb, eqb-true, and_parts}
use Rattle.qs_memory.specs.Partial.{◌>>=◌}
use Rattle.qs_assert.specs.declared.variable.Var.{Var}
use Rattle.qs_assert.specs.declared.variable.VarKind.TheVariants as kinds
use Rattle.qs_assert.specs.Order.{IsInOrder}
use Rattle.qs_assert.specs.Trees.{TermTree, AssertionTree, natural, infinity, cost, num, total, greatest, product, guard, choose, named, AssertionTrees, no_assertions, assertion_and, assertions_of}
use Rattle.qs_core.specs.CallGraph.{calls, is_member}
use Rattle.qs_core.specs.Fits.{unit_fits}
use Rattle.qs_core.specs.Trees.{CoreFunctionTree, CoreUnitTree}
use Rattle.qs_callgraph.specs.Orders.{CalleesFirst}
use Rattle.qs_callgraph.proofs.MemberLaws.{first_cases}
use Rattle.qs_callgraph.proofs.UnitCalls.{call_within}
use Rattle.qs_triples.specs.Derivations.{EntryTree, ProofsTree, spec_of}
use Rattle.qs_triples.specs.Entries.{IsDerived}
use Rattle.qs_recur.specs.Bodies.{CallTree, all_calls_made}
use Rattle.qs_recur.specs.Entries.{entry_in, entry_for}
use Rattle.qs_recur.specs.Needs.{Preconditions, AreNeeds, unsigned, measure, helpers, Helper, members, Counting, own_need, with_helpers, counting_pre, counting, greatest_of, passing, counted_need, need_in, need, balanced}
use Rattle.qs_recur.specs.Passing.{passing_entry}
use Rattle.qs_recur.specs.Sizes.{is_of_costs, all_of_costs}
use Rattle.qs_recur.specs.Written.{counting_entry}
use Rattle.qs_recur.proofs.CountedLaws.{may_be, has_helpers}
use Rattle.qs_recur.proofs.FitLaws.{Each}
use Rattle.qs_recur.proofs.FoundLaws.{is_own, called_among}
use Rattle.qs_recur.proofs.HelpedLaws.{sums_of, there_at, helped_derived, body_calls, calls_another, helper_listed, helper_called}
use Rattle.qs_recur.proofs.HelperLaws.{is_sum, are_sums, AreSums}
use Rattle.qs_recur.proofs.NeedLaws.{IsMeasure, IsNeed, AllNeeds}
use Rattle.qs_recur.proofs.PassingLaws.{IsPassed}
use Rattle.qs_recur.proofs.TestLaws.{step_before, some_same}
use Rattle.qs_recur.proofs.PassedLaws.{CalleesNeed, passing_need_made, passed_derived}

-- ---- sums

no_number : (factors : AssertionTrees) (t : TermTree) (f : ℕ) → factors ≡ assertions_of (num t ∷ cost f ∷ []) → all_of_costs factors ≡ true → ⊥
no_number factors t f h c = both_ways (all_of_costs factors) (ap all_of_costs h) c

module _ (P : Var → Type 0) where
  mutual
    -- what needs costs alone is a sum
    pub closed_sum : (a : AssertionTree) → IsNeed P a → is_of_costs a ≡ true → is_sum a ≡ true
    closed_sum (natural n) h c = eq-eqb n 0 h
    closed_sum infinity h c = absurd h
    closed_sum (cost f) h c = refl
    closed_sum (num t) h c = absurd h
    closed_sum (total summands) h c = closed_sums summands h c
    closed_sum (greatest members) h c = cc
    closed_sum (product factors) h c = absurd (no_number factors h.term h.function h.is c)
    closed_sum (guard b a) h c = absurd h
    closed_sum (choose b x y) h c = absurd h
    closed_sum (named n) h c = absurd h

    closed_sums : (others : AssertionTrees) → AllNeeds P others → all_of_costs others ≡ true → are_sums others ≡ true
    closed_sums no_assertions h c = refl
    closed_sums (assertion_and a others) h c =
        let p = and_parts (is_of_costs a) (all_of_costs others) c in
        ap (λ (b : Bool). b && are_sums others) (closed_sum a h.0 p.0) ∙ closed_sums others h.1 p.1

  mutual
    pub sum_made : (a : AssertionTree) → is_sum a ≡ true → IsNeed P a
    sum_made (natural n) h = eqb-true n 0 h
    sum_made infinity h = cc
    sum_made (cost f) h = tt
    sum_made (num t) h = cc
    sum_made (total summands) h = sums_made summands h
    sum_made (greatest members) h = cc
    sum_made (product factors) h = cc
    sum_made (guard b a) h = cc
    sum_made (choose b x y) h = cc
    sum_made (named n) h = cc

    sums_made : (others : AssertionTrees) → are_sums others ≡ true → AllNeeds P others
    sums_made no_assertions h = tt
    sums_made (assertion_and a others) h = let p = and_parts (is_sum a) (are_sums others) h in (sum_made a p.0, sums_made others p.1)

  members_made : (hs : List Helper) → AreSums hs → AllNeeds P (assertions_of (members hs))
  members_made [] h = tt
  members_made (g ∷ hs) h = (tt, (sum_made g.need h.0, members_made hs h.1))

  own_made : (f : ℕ) (c : Counting) → P (unsigned (kinds.Plain c.counter)) → IsNeed P (own_need f c)
  own_made f c h = record { term = measure c.by_bits (unsigned (kinds.Plain c.counter)); function = f; is = refl; measures = by c.by_bits }
    where
      by : (b : Bool) → IsMeasure P (measure b (unsigned (kinds.Plain c.counter)))
      by true = h
      by false = h

  with_made : (hs : List Helper) (own : AssertionTree) → AreSums hs → IsNeed P own → IsNeed P (with_helpers hs own)
  with_made [] own h o = o
  with_made (g ∷ hs) own h o = (members_made (g ∷ hs) h, (o, tt))

-- ---- one function, by those that it calls

module _ (u : CoreUnitTree) (fits : unit_fits u ≡ true) (pres : Preconditions) where
  abbrev pub IsMade : ℕ → Type 0
  IsMade g = (callee : CoreFunctionTree) (pre : AssertionTree) → slice_get u.functions g ≡ Some callee → pres g ≡ Some pre → IsNeed (IsPassed callee) pre

  module _ (f : ℕ) (made : (g : ℕ) → is_member g (helpers u f) ≡ true → IsMade g) (function : CoreFunctionTree) (stands : slice_get u.functions f ≡ Some function) where
    sum_at : (g : ℕ) (pre : AssertionTree) → is_member g (helpers u f) ≡ true → pres g ≡ Some pre → is_of_costs pre ≡ true → is_sum pre ≡ true
    sum_at g pre listed has closed =
        let there = there_at u.functions g (call_within u f g (helper_called u f g listed)) in
        closed_sum (IsPassed there.0) pre (made g listed there.0 pre there.1 has) closed

    -- one that counts
    counting_made : (c : Counting) → counting u pres f function ≡ Some c → IsNeed (IsPassed function) (counting_pre f c)
    counting_made c found =
        let m = may_be u fits pres f function stands c found in
        with_made (IsPassed function) c.helpers (own_need f c) (sums_of pres (helpers u f) c.helpers sum_at (has_helpers u fits pres f function stands c found))
        (own_made (IsPassed function) f c (record { parameter = c.counter; is = refl; plain = m.0; type_is = m.1; fixed = m.2 }))

    -- one that passes
    module _ (alone : calls u f f ≡ false) where
      callee_made : (g : ℕ) → list_any (is_own g) (all_calls_made function.body) ≡ true → IsMade g
      callee_made g m =
          let called = body_calls u f function stands g m in
          made g (helper_listed u fits f g called (calls_another u f g alone called))

      callees_made : (cs : List CallTree) → Each (λ call. list_any (is_own call.function) (all_calls_made function.body) ≡ true) cs → CalleesNeed u pres f function stands cs
      callees_made [] h = tt
      callees_made (call ∷ cs) h = (callee_made call.function h.0, callees_made cs h.1)

      pub all_made : CalleesNeed u pres f function stands (all_calls_made function.body)
      all_made = callees_made (all_calls_made function.body) (called_among (all_calls_made function.body) [])

    counted_made : (o : Option Counting) (pre : AssertionTree) → counting u pres f function ≡ o → counted_need f o ≡ Some pre → IsNeed (IsPassed function) pre
    counted_made None pre e h = cc
    counted_made (Some c) pre e h = subst (IsNeed (IsPassed function)) (some_same (counting_pre f c) pre h) (counting_made c e)

    passing_made : (o : Option (List AssertionTree)) (pre : AssertionTree) → calls u f f ≡ false → passing u pres function ≡ o → option_map greatest_of o ≡ Some pre → IsNeed (IsPassed function) pre
    passing_made None pre alone e h = cc
    passing_made (Some needs) pre alone e h =
        subst (IsNeed (IsPassed function)) (some_same (greatest_of needs) pre h) (passing_need_made u pres f function stands fits (all_made alone) needs e)

    in_made : (pre : AssertionTree) → need_in u pres f function ≡ Some pre → IsNeed (IsPassed function) pre
    in_made pre h = by (calls u f f) refl
      where
        by : (b : Bool) → calls u f f ≡ b → IsNeed (IsPassed function) pre
        by true e =
            counted_made (counting u pres f function) pre refl (sym (ap (λ (b : Bool). if b then counted_need f (counting u pres f function) else option_map greatest_of (passing u pres function)) e) ∙ h)
        by false e =
            passing_made (passing u pres function) pre e refl (sym (ap (λ (b : Bool). if b then counted_need f (counting u pres f function) else option_map greatest_of (passing u pres function)) e) ∙ h)

    -- ---- its entry

    module _ (proofs : ProofsTree) (order : IsInOrder proofs.defines) (specs : (g : ℕ) (pre : AssertionTree) → pres g ≡ Some pre → spec_of proofs g ≡ Some (balanced pre)) (needed : pres f ≡ need u pres f) where
      has_need : (pre : AssertionTree) → need_in u pres f function ≡ Some pre → pres f ≡ Some pre
      has_need pre h = needed ∙ (ap (λ (o : Option CoreFunctionTree). o >>= need_in u pres f) stands ∙ h)

      counted : (o : Option Counting) (e : EntryTree) → calls u f f ≡ true → counting u pres f function ≡ o → option_map (λ c. counting_entry f c function) o ≡ Some e → IsDerived u proofs e
      counted None e own found h = cc
      counted (Some c) e own found h =
          let pre_is = ap (λ (b : Bool). if b then counted_need f (counting u pres f function) else option_map greatest_of (passing u pres function)) own ∙ ap (counted_need f) found in
          subst (IsDerived u proofs) (some_same (counting_entry f c function) e h)
          (helped_derived u fits pres f function stands c found proofs order (specs f (counting_pre f c) (has_need (counting_pre f c) pre_is)) sum_at (λ g pre listed has. specs g pre has))

      passed : (o : Option (List AssertionTree)) (e : EntryTree) → calls u f f ≡ false → passing u pres function ≡ o → option_map (λ needs. passing_entry u pres function needs f) o ≡ Some e → IsDerived u proofs e
      passed None e alone passes h = cc
      passed (Some needs) e alone passes h =
          subst (IsDerived u proofs) (some_same (passing_entry u pres function needs f) e h) (passed_derived u pres f function stands fits (all_made alone) needs passes proofs order specs)

      pub in_derived : (e : EntryTree) → entry_in u pres f function ≡ Some e → IsDerived u proofs e
      in_derived e h = by (calls u f f) refl
        where
          by : (b : Bool) → calls u f f ≡ b → IsDerived u proofs e
          by true own =
              counted (counting u pres f function) e own refl
              (sym (ap (λ (b : Bool). if b then option_map (λ c. counting_entry f c function) (counting u pres f function) else option_map (λ needs. passing_entry u pres function needs f) (passing u pres function)) own) ∙ h)
          by false alone =
              passed (passing u pres function) e alone refl
              (sym (ap (λ (b : Bool). if b then option_map (λ c. counting_entry f c function) (counting u pres f function) else option_map (λ needs. passing_entry u pres function needs f) (passing u pres function)) alone) ∙ h)

  -- ---- along the order

  pub need_made : AreNeeds u pres → (f : ℕ) → ((g : ℕ) → is_member g (helpers u f) ≡ true → IsMade g) → IsMade f
  need_made needs f made function pre stands has =
      in_made f made function stands pre (sym (ap (λ (o : Option CoreFunctionTree). o >>= need_in u pres f) stands) ∙ (sym (needs f) ∙ has))

  all_needs_made :
      AreNeeds u pres → (earlier fs : List ℕ) → CalleesFirst (helpers u) (λ g. false) earlier fs → ((g : ℕ) → is_member g earlier ≡ true → IsMade g)
      → (f : ℕ) → is_member f fs ≡ true → ((g : ℕ) → is_member g (helpers u f) ≡ true → IsMade g)
  all_needs_made needs earlier [] order made f m = absurd (both_ways false refl m)
  all_needs_made needs earlier (h ∷ fs) order made f m = by (first_cases f h fs m) (λ (known : (g : ℕ) → is_member g (h ∷ earlier) ≡ true → IsMade g) (n : is_member f fs ≡ true). all_needs_made needs (h ∷ earlier) fs order.2 known f n)
    where
      here : (g : ℕ) → is_member g (helpers u h) ≡ true → IsMade g
      here g listed = made g (order.1 g listed refl)

      more : (g : ℕ) → is_member g (h ∷ earlier) ≡ true → IsMade g
      more g m = or_made (first_cases g h earlier m)
        where
          or_made : (h ≡ g) ⊎ (is_member g earlier ≡ true) → IsMade g
          or_made (inl e) = subst IsMade e (need_made needs h here)
          or_made (inr m) = made g m

      by :
          (h ≡ f) ⊎ (is_member f fs ≡ true) → (((g : ℕ) → is_member g (h ∷ earlier) ≡ true → IsMade g) → is_member f fs ≡ true → (g : ℕ) → is_member g (helpers u f) ≡ true → IsMade g)
          → (g : ℕ) → is_member g (helpers u f) ≡ true → IsMade g
      by (inl e) later = subst (λ (f : ℕ). (g : ℕ) → is_member g (helpers u f) ≡ true → IsMade g) e here
      by (inr n) later = later more n

  -- each entry is derived in all proofs in which these specifications stand
  pub entry_derived :
      AreNeeds u pres → (fs : List ℕ) → CalleesFirst (helpers u) (λ g. false) [] fs → (f : ℕ) → is_member f fs ≡ true → (e : EntryTree) → entry_for u pres f ≡ Some e
      → (proofs : ProofsTree) → IsInOrder proofs.defines → ((g : ℕ) (pre : AssertionTree) → pres g ≡ Some pre → spec_of proofs g ≡ Some (balanced pre)) → IsDerived u proofs e
  entry_derived needs fs order f m e h proofs in_order specs =
      let made = all_needs_made needs [] fs order (λ g m. absurd (both_ways false refl m)) f m in
      let p = step_before (slice_get u.functions f) (entry_in u pres f) e h in
      in_derived f made p.0 p.1 proofs in_order specs (needs f) e p.2
