-- The entries along an order stand behind those of the functions that they call.
use Rattle.std.proofs.Common.{◌≡◌, ◌==◌, ℕ, refl, sym, ap, ◌∙◌, subst, Bool, true, false, List, [], ◌∷◌, ◌++◌, Some, None}
use Rattle.std.specs.Prelude.{◌||◌, if◌then◌else◌, map, Option, option_map}
use Rattle.std.specs.List.{slice_get, find, list_any}
use Rattle.std.proofs.lemmas.Bool.{both_ways, eqb-true, or_parts, or_from}
use Rattle.qs_memory.specs.Partial.{◌>>=◌, only_if}
use Rattle.qs_assert.specs.Trees.{AssertionTree}
use Rattle.qs_core.specs.CallGraph.{callees_of, calls, is_member}
use Rattle.qs_core.specs.Fits.{unit_fits}
use Rattle.qs_core.specs.Trees.{CoreFunctionTree, CoreUnitTree}
use Rattle.qs_callgraph.specs.Orders.{CalleesFirst}
use Rattle.qs_callgraph.proofs.UnitCalls.{is_call}
use Rattle.qs_triples.specs.Derivations.{EntryTree, entry_of}
use Rattle.qs_recur.specs.Bodies.{CallTree, all_calls_made, all_switches_fit}
use Rattle.qs_recur.specs.Entries.{entry_in, entry_for, proofs_of, with_entry, entries_along}
use Rattle.qs_recur.specs.Needs.{Preconditions, helpers, Helper, helpers_with, Counting, counting, arguments_fixed, call_need, passed_call, passed_calls, greatest_of, passing_fits, passing}
use Rattle.qs_recur.specs.Passing.{passing_entry}
use Rattle.qs_recur.specs.Recursions.{pres_of}
use Rattle.qs_recur.specs.Sizes.{is_of_costs}
use Rattle.qs_recur.specs.Written.{counting_entry}
use Rattle.qs_recur.proofs.CountedLaws.{counting_is}
use Rattle.qs_recur.proofs.DerivedLaws.{AreOrdered, entry_listed}
use Rattle.qs_recur.proofs.FoundLaws.{is_own, have_call_is}
use Rattle.qs_recur.proofs.HelpedLaws.{helper_called}
use Rattle.qs_recur.proofs.OrderLaws.{its_own, AreDone, none_done, one_more}
use Rattle.qs_recur.proofs.TestLaws.{step_before, test_before}

-- ---- one function more, at the end

none_behind : (a : Bool) → (a || false) ≡ true → a ≡ true
none_behind true h = refl
none_behind false h = h

turned : (a b c : Bool) → (a || (b || c)) ≡ true → ((b || a) || c) ≡ true
turned true true c h = refl
turned true false c h = refl
turned false true c h = refl
turned false false c h = h

module _ (callees : ℕ → List ℕ) (h : ℕ) where
  last_added :
      (earlier fs : List ℕ) → CalleesFirst callees (λ g. false) earlier fs → is_member h earlier ≡ false → is_member h fs ≡ false
      → ((g : ℕ) → is_member g (callees h) ≡ true → (is_member g earlier || is_member g fs) ≡ true) → CalleesFirst callees (λ g. false) earlier (fs ++ h ∷ [])
  last_added earlier [] order new new_too there = (new, λ g m n. none_behind (is_member g earlier) (there g m), tt)
  last_added earlier (f ∷ fs) order new new_too there =
      let p = or_parts (f == h) (is_member h fs) new_too in (
        order.0,
        order.1,
        last_added (f ∷ earlier) fs order.2 (or_from (f == h) (is_member h earlier) p.0 new) p.1 (λ g m. turned (is_member g earlier) (f == g) (is_member g fs) (there g m)),
      )

-- ---- those that it calls have a precondition

abbrev IsKnown : Preconditions → ℕ → Type 0
IsKnown pres g = (pre : AssertionTree) × (pres g ≡ Some pre)

helper_known : (pres : Preconditions) (gs : List ℕ) (hs : List Helper) → helpers_with pres gs ≡ Some hs → (g : ℕ) → is_member g gs ≡ true → IsKnown pres g
helper_known pres [] hs h g m = absurd (both_ways false refl m)
helper_known pres (k ∷ gs) hs h g m =
    let last = λ (pre : AssertionTree) (others : List Helper). only_if (is_of_costs pre) (Some (record { function = k; need = pre } ∷ others)) in
    let p = step_before (pres k) (λ pre. helpers_with pres gs >>= λ others. last pre others) hs h in
    let q = step_before (helpers_with pres gs) (last p.0) hs p.2 in
    by (k == g) refl m (p.0, p.1) (λ m. helper_known pres gs q.0 q.1 g m)
  where
    by : (b : Bool) → (k == g) ≡ b → (b || is_member g gs) ≡ true → IsKnown pres k → (is_member g gs ≡ true → IsKnown pres g) → IsKnown pres g
    by true e m known next = subst (IsKnown pres) (eqb-true k g e) known
    by false e m known next = next m

module _ (u : CoreUnitTree) (pres : Preconditions) where
  call_known : (function : CoreFunctionTree) (cs : List CallTree) (needs : List AssertionTree) → passed_calls u pres function cs ≡ Some needs → (g : ℕ) → list_any (is_own g) cs ≡ true → IsKnown pres g
  call_known function [] needs h g m = absurd (both_ways false refl m)
  call_known function (call ∷ cs) needs h g m =
      let p = step_before (passed_call u pres function call) (λ a. passed_calls u pres function cs >>= λ others. Some (a ∷ others)) needs h in
      let q = step_before (passed_calls u pres function cs) (λ others. Some (p.0 ∷ others)) needs p.2 in
      let r = step_before (pres call.function) (λ pre. only_if (arguments_fixed function call.arguments pre) (call_need u call pre)) p.0 p.1 in
      by (call.function == g) refl m (r.0, r.1) (λ m. call_known function cs q.0 q.1 g m)
    where
      by : (b : Bool) → (call.function == g) ≡ b → (b || list_any (is_own g) cs) ≡ true → IsKnown pres call.function → (list_any (is_own g) cs ≡ true → IsKnown pres g) → IsKnown pres g
      by true e m known next = subst (IsKnown pres) (eqb-true call.function g e) known
      by false e m known next = next m

  module _ (f : ℕ) (function : CoreFunctionTree) (stands : slice_get u.functions f ≡ Some function) (g : ℕ) (m : is_member g (helpers u f) ≡ true) where
    counted_known : (o : Option Counting) (e : EntryTree) → counting u pres f function ≡ o → option_map (λ c. counting_entry f c function) o ≡ Some e → IsKnown pres g
    counted_known None e found h = cc
    counted_known (Some c) e found h = helper_known pres (helpers u f) c.helpers (counting_is u pres f function c found).helpers_are g m

    passed_known : (o : Option (List AssertionTree)) (e : EntryTree) → passing u pres function ≡ o → option_map (λ needs. passing_entry u pres function needs f) o ≡ Some e → IsKnown pres g
    passed_known None e passes h = cc
    passed_known (Some needs) e passes h =
        let next = λ (parts : List AssertionTree). only_if (passing_fits function (greatest_of parts)) (Some parts) in
        let p = step_before (only_if (all_switches_fit function.body) (passed_calls u pres function (all_calls_made function.body))) next needs passes in
        let q = test_before (all_switches_fit function.body) (passed_calls u pres function (all_calls_made function.body)) p.0 p.1 in
        call_known function (all_calls_made function.body) p.0 q.1 g
        (sym (have_call_is g function.body) ∙ (sym (ap (λ (o : Option CoreFunctionTree). is_member g (callees_of o)) stands) ∙ is_call u f g (helper_called u f g m)))

    in_known : (e : EntryTree) (b : Bool)
        → (if b then option_map (λ c. counting_entry f c function) (counting u pres f function) else option_map (λ needs. passing_entry u pres function needs f) (passing u pres function)) ≡ Some e → IsKnown pres g
    in_known e true h = counted_known (counting u pres f function) e refl h
    in_known e false h = passed_known (passing u pres function) e refl h

  entry_known : (f : ℕ) (e : EntryTree) → entry_for u pres f ≡ Some e → (g : ℕ) → is_member g (helpers u f) ≡ true → IsKnown pres g
  entry_known f e h g m =
      let p = step_before (slice_get u.functions f) (entry_in u pres f) e h in
      in_known f p.0 p.1 g m e (calls u f f) p.2

-- ---- along the order

has_entry_listed : (es : List EntryTree) (g : ℕ) (pre : AssertionTree) → pres_of (proofs_of es) g ≡ Some pre → is_member g (map (λ e. e.function) es) ≡ true
has_entry_listed es g pre h = by (entry_of (proofs_of es) g) refl h
  where
    by : (o : Option EntryTree) → entry_of (proofs_of es) g ≡ o → option_map (λ s. s.pre) (option_map (λ (e : EntryTree). e.spec) o) ≡ Some pre → is_member g (map (λ e. e.function) es) ≡ true
    by None e h = cc
    by (Some d) e h = entry_listed g es d e

found_at : (f : ℕ) (es : List EntryTree) → is_member f (map (λ e. e.function) es) ≡ true → find (λ (e : EntryTree). e.function == f) es ≡ None → ⊥
found_at f [] m none = both_ways false refl m
found_at f (d ∷ es) m none = by (d.function == f) (found_at f es) m none
  where
    by : (b : Bool) → (is_member f (map (λ e. e.function) es) ≡ true → find (λ (e : EntryTree). e.function == f) es ≡ None → ⊥) → (b || is_member f (map (λ e. e.function) es)) ≡ true → (if b then Some d else find (λ (e : EntryTree). e.function == f) es) ≡ None → ⊥
    by true later m none = cc
    by false later m none = later m none

not_listed : (f : ℕ) (es : List EntryTree) → entry_of (proofs_of es) f ≡ None → is_member f (map (λ e. e.function) es) ≡ false
not_listed f es none = by (is_member f (map (λ e. e.function) es)) refl
  where
    by : (b : Bool) → is_member f (map (λ e. e.function) es) ≡ b → is_member f (map (λ e. e.function) es) ≡ false
    by true m = absurd (found_at f es m none)
    by false m = m

functions_behind : (es : List EntryTree) (e : EntryTree) → map (λ (e : EntryTree). e.function) (es ++ e ∷ []) ≡ map (λ (e : EntryTree). e.function) es ++ e.function ∷ []
functions_behind [] e = refl
functions_behind (d ∷ es) e = ap (λ (fs : List ℕ). d.function ∷ fs) (functions_behind es e)

module _ (u : CoreUnitTree) (fits : unit_fits u ≡ true) where
  abbrev IsInOrderOf : List EntryTree → Type 0
  IsInOrderOf es = AreOrdered u (proofs_of es)

  one_behind :
      (h : ℕ) (es : List EntryTree) (o : Option EntryTree) → ((e : EntryTree) → o ≡ Some e → e.function ≡ h) → ((e : EntryTree) → o ≡ Some e → (g : ℕ) → is_member g (helpers u h) ≡ true → IsKnown (pres_of (proofs_of es)) g)
      → entry_of (proofs_of es) h ≡ None → IsInOrderOf es → IsInOrderOf (with_entry o es)
  one_behind h es None own known none order = order
  one_behind h es (Some e) own known none order =
      subst (λ (fs : List ℕ). CalleesFirst (helpers u) (λ g. false) [] fs) (sym (functions_behind es e ∙ ap (λ (f : ℕ). map (λ (e : EntryTree). e.function) es ++ f ∷ []) (own e refl)))
      (last_added (helpers u) h [] (map (λ (e : EntryTree). e.function) es) order refl (not_listed h es none) (λ g m. let k = known e refl g m in has_entry_listed es g k.0 k.1))

  goes_in_order : (earlier fs : List ℕ) (es : List EntryTree) → CalleesFirst (helpers u) (λ g. false) earlier fs → AreDone u fits earlier es → IsInOrderOf es → IsInOrderOf (entries_along u fs es)
  goes_in_order earlier [] es order done ordered = ordered
  goes_in_order earlier (h ∷ fs) es order done ordered =
      let given = entry_for u (pres_of (proofs_of es)) h in
      goes_in_order (h ∷ earlier) fs (with_entry given es) order.2 (one_more u fits h earlier es done order.0 (λ g l. order.1 g l refl))
      (one_behind h es given (λ e i. its_own u (pres_of (proofs_of es)) h e i) (λ e i g m. entry_known u (pres_of (proofs_of es)) h e i g m) (done.none h order.0) ordered)

  pub entries_ordered : (fs : List ℕ) → CalleesFirst (helpers u) (λ g. false) [] fs → AreOrdered u (proofs_of (entries_along u fs []))
  entries_ordered fs order = goes_in_order [] fs [] order (none_done u fits) tt
