-- A function that counts and calls others whose entries stand: its entry is derived.
use Rattle.std.proofs.Common.{◌≡◌, ◌≤◌, ◌<◌, ◌==◌, ℕ, zero, suc, refl, sym, ap, ◌∙◌, subst, arith, Bool, true, false, cond, List, [], ◌∷◌, length, filter, Some}
use Rattle.std.specs.Prelude.{◌&&◌, ◌||◌, not, Option}
use Rattle.std.specs.List.{slice_get, list_any}
use Rattle.std.proofs.lemmas.Bool.{and_from, eq-eqb, eqb-true, both_ways, or_parts, or_right, and_parts, ne_eqb}
use Rattle.qs_memory.specs.Partial.{◌>>=◌, only_if}
use Rattle.qs_assert.specs.Order.{IsInOrder}
use Rattle.qs_assert.specs.Trees.{AssertionTree}
use Rattle.qs_core.specs.CallGraph.{below, callees_of, called_by, calls, is_member}
use Rattle.qs_core.specs.Fits.{unit_fits}
use Rattle.qs_core.specs.Trees.{CoreFunctionTree, CoreUnitTree}
use Rattle.qs_callgraph.specs.Searches.{AreApart}
use Rattle.qs_callgraph.proofs.MemberLaws.{below_member, member-filter}
use Rattle.qs_callgraph.proofs.PathLaws.{apart_more}
use Rattle.qs_callgraph.proofs.UnitCalls.{is_listed, calls_within}
use Rattle.qs_triples.specs.Derivations.{ProofsTree, spec_of}
use Rattle.qs_triples.specs.Entries.{IsDerived}
use Rattle.qs_recur.specs.Bodies.{CallTree, all_calls_made}
use Rattle.qs_recur.specs.Needs.{Preconditions, helpers, Helper, helpers_need, helpers_with, helpers_cost_little, Counting, own_need, counting_pre, counting, balanced}
use Rattle.qs_recur.specs.Sizes.{is_of_costs, costs_little}
use Rattle.qs_recur.specs.Written.{counting_entry}
use Rattle.qs_recur.proofs.CostsLaws.{AreOfCosts, members_of_costs}
use Rattle.qs_recur.proofs.CountedLaws.{Other, closed_helpers, counted_derived, counting_is, has_helpers, least_positive, least_small, setting}
use Rattle.qs_recur.proofs.FitLaws.{Each}
use Rattle.qs_recur.proofs.FoundLaws.{is_own, have_call_is, called_among}
use Rattle.qs_recur.proofs.HelperLaws.{is_sum, AreSums, NoneOf, IsOneOf, is_first, is_later}
use Rattle.qs_recur.proofs.OtherLaws.{IsHelper, helper_paid_start, helper_paid_past}
use Rattle.qs_recur.proofs.OwnLaws.{OwnPaid}
use Rattle.qs_recur.proofs.PositiveLaws.{AreLittle, helpers_little}
use Rattle.qs_recur.proofs.SumLaws.{HasLittle, little_of, own_paid_holds}
use Rattle.qs_recur.proofs.TestLaws.{step_before, test_before, some_same}

-- ---- the functions that a function calls

-- what is called in its body
pub body_calls :
    (u : CoreUnitTree) (f : ℕ) (function : CoreFunctionTree) → slice_get u.functions f ≡ Some function → (g : ℕ) → list_any (is_own g) (all_calls_made function.body) ≡ true → calls u f g ≡ true
body_calls u f function stands g m = ap (λ (o : Option CoreFunctionTree). is_member g (callees_of o)) stands ∙ (have_call_is g function.body ∙ m)

-- another function, where it doesn't call itself
pub calls_another : (u : CoreUnitTree) (f g : ℕ) → calls u f f ≡ false → calls u f g ≡ true → (g == f) ≡ false
calls_another u f g alone called = ne_eqb g f (λ e. both_ways (calls u f f) alone (ap (λ (k : ℕ). calls u f k) (sym e) ∙ called))

pub helper_listed : (u : CoreUnitTree) → unit_fits u ≡ true → (f g : ℕ) → calls u f g ≡ true → (g == f) ≡ false → is_member g (helpers u f) ≡ true
helper_listed u fits f g called differs =
    member-filter (λ g. not (g == f)) g (called_by u f) ∙ and_from (not (g == f)) (is_member g (called_by u f)) (ap not differs) (is_listed u f g called (calls_within u f g fits called))

pub helper_called : (u : CoreUnitTree) (f g : ℕ) → is_member g (helpers u f) ≡ true → is_member g (called_by u f) ≡ true
helper_called u f g h = (and_parts (not (g == f)) (is_member g (called_by u f)) (sym (member-filter (λ g. not (g == f)) g (called_by u f)) ∙ h)).1

-- ---- lists in which nothing stands twice

not_there : (n f : ℕ) → n ≤ f → is_member f (below n) ≡ false
not_there n f l = by (is_member f (below n)) refl
  where
    by : (b : Bool) → is_member f (below n) ≡ b → b ≡ false
    by true h = let m = below_member n f h in absurd (omega (arith, l, m))
    by false h = refl

below_apart : (n : ℕ) → AreApart (below n)
below_apart zero = tt
below_apart (suc n) = apart_more (below n) n (below_apart n) (not_there n n (omega arith))

filter_apart : (test : ℕ → Bool) (gs : List ℕ) → AreApart gs → AreApart (filter test gs)
filter_apart test [] a = tt
filter_apart test (g ∷ gs) a = by (test g) (filter_apart test gs a.1)
  where
    by : (b : Bool) → AreApart (filter test gs) → AreApart (cond b (g ∷ filter test gs) (filter test gs))
    by true r = (member-filter test g gs ∙ (ap (λ (m : Bool). test g && m) a.0 ∙ and_false (test g)), r)
      where
        and_false : (b : Bool) → (b && false) ≡ false
        and_false true = refl
        and_false false = refl
    by false r = r

helpers_apart : (u : CoreUnitTree) (f : ℕ) → AreApart (helpers u f)
helpers_apart u f = filter_apart (λ g. not (g == f)) (called_by u f) (filter_apart (calls u f) (below (length u.functions)) (below_apart (length u.functions)))

-- ---- the helpers of a function by those that it calls

none_of : (pres : Preconditions) (gs : List ℕ) (hs : List Helper) (f : ℕ) → helpers_with pres gs ≡ Some hs → is_member f gs ≡ false → NoneOf f hs
none_of pres [] hs f h m = subst (NoneOf f) (some_same {A = List Helper} [] hs h) tt
none_of pres (g ∷ gs) hs f h m =
    let last = λ (pre : AssertionTree) (others : List Helper). only_if (is_of_costs pre) (Some (record { function = g; need = pre } ∷ others)) in
    let p = step_before (pres g) (λ pre. helpers_with pres gs >>= λ others. last pre others) hs h in
    let q = step_before (helpers_with pres gs) (last p.0) hs p.2 in
    let r = test_before (is_of_costs p.0) (Some (record { function = g; need = p.0 } ∷ q.0)) hs q.2 in
    let n = or_parts (g == f) (is_member f gs) m in
    subst (NoneOf f) (some_same {A = List Helper} (record { function = g; need = p.0 } ∷ q.0) hs r.1) (n.0, none_of pres gs q.0 f q.1 n.1)

-- one that is called stands among them with its precondition
pub record Stands (pres : Preconditions) (f : ℕ) (hs : List Helper) : Type 0 where
  pub need : AssertionTree
  pub pre : pres f ≡ Some need
  pub of_costs : is_of_costs need ≡ true
  pub one_of : IsOneOf f need hs

stands_in : (pres : Preconditions) (gs : List ℕ) (hs : List Helper) (f : ℕ) → AreApart gs → helpers_with pres gs ≡ Some hs → is_member f gs ≡ true → Stands pres f hs
stands_in pres [] hs f a h m = absurd (both_ways false refl m)
stands_in pres (g ∷ gs) hs f a h m =
    let last = λ (pre : AssertionTree) (others : List Helper). only_if (is_of_costs pre) (Some (record { function = g; need = pre } ∷ others)) in
    let p = step_before (pres g) (λ pre. helpers_with pres gs >>= λ others. last pre others) hs h in
    let q = step_before (helpers_with pres gs) (last p.0) hs p.2 in
    let r = test_before (is_of_costs p.0) (Some (record { function = g; need = p.0 } ∷ q.0)) hs q.2 in
    subst (Stands pres f) (some_same {A = List Helper} (record { function = g; need = p.0 } ∷ q.0) hs r.1) (by (g == f) refl m p.0 p.1 r.0 q.0 q.1 (λ (n : is_member f gs ≡ true). stands_in pres gs q.0 f a.1 q.1 n))
  where
    by :
        (b : Bool) → (g == f) ≡ b → (b || is_member f gs) ≡ true → (need : AssertionTree) → pres g ≡ Some need → is_of_costs need ≡ true → (others : List Helper) → helpers_with pres gs ≡ Some others
        → (is_member f gs ≡ true → Stands pres f others) → Stands pres f (record { function = g; need = need } ∷ others)
    by true e m need has closed others rest next =
        let is = eqb-true g f e in
        record { need = need; pre = ap pres (sym is) ∙ has; of_costs = closed; one_of = is_first is refl (none_of pres gs others f rest (subst (λ (k : ℕ). is_member k gs ≡ false) is a.0)) }
    by false e m need has closed others rest next =
        let w = next m in
        record { need = w.need; pre = w.pre; of_costs = w.of_costs; one_of = is_later e w.one_of }

pub sums_of : (pres : Preconditions) (gs : List ℕ) (hs : List Helper) → ((g : ℕ) (need : AssertionTree) → is_member g gs ≡ true → pres g ≡ Some need → is_of_costs need ≡ true → is_sum need ≡ true) → helpers_with pres gs ≡ Some hs → AreSums hs
sums_of pres [] hs sums h = subst AreSums (some_same {A = List Helper} [] hs h) tt
sums_of pres (g ∷ gs) hs sums h =
    let last = λ (pre : AssertionTree) (others : List Helper). only_if (is_of_costs pre) (Some (record { function = g; need = pre } ∷ others)) in
    let p = step_before (pres g) (λ pre. helpers_with pres gs >>= λ others. last pre others) hs h in
    let q = step_before (helpers_with pres gs) (last p.0) hs p.2 in
    let r = test_before (is_of_costs p.0) (Some (record { function = g; need = p.0 } ∷ q.0)) hs q.2 in
    subst AreSums (some_same {A = List Helper} (record { function = g; need = p.0 } ∷ q.0) hs r.1)
    (sums g p.0 (ap (λ (b : Bool). b || is_member g gs) (eq-eqb g g refl)) p.1 r.0, sums_of pres gs q.0 (λ k need m. sums k need (or_right (g == k) (is_member k gs) m)) q.1)

little_at : (f : ℕ) (need : AssertionTree) (hs : List Helper) → IsOneOf f need hs → AreLittle hs → HasLittle need
little_at f need [] one l = elim one [ ]
little_at f need (m ∷ hs) (is_first e n none) l = subst HasLittle n l.0
little_at f need (m ∷ hs) (is_later e later) l = little_at f need hs later l.1

all_little : (hs : List Helper) → AreSums hs → AreOfCosts hs → helpers_cost_little hs ≡ true → AreLittle hs
all_little [] s o h = tt
all_little (g ∷ hs) s o h = helpers_little (g ∷ hs) s o (little_of (helpers_need (g ∷ hs)) (members_of_costs (g ∷ hs) o) h)

pub there_at : {A : Type 0} (xs : List A) (i : ℕ) → i < length xs → (x : A) × (slice_get xs i ≡ Some x)
there_at [] i b = absurd (omega (arith, b))
there_at (x ∷ xs) zero b = (x, refl)
there_at (x ∷ xs) (suc i) b = there_at xs i (omega (arith, b))

-- ---- the whole

module _ (u : CoreUnitTree) (fits : unit_fits u ≡ true) (pres : Preconditions) (f : ℕ) (function : CoreFunctionTree) (stands : slice_get u.functions f ≡ Some function) (c : Counting) (found : counting u pres f function ≡ Some c) where
  is_found : helpers_with pres (helpers u f) ≡ Some c.helpers
  is_found = has_helpers u fits pres f function stands c found

  abbrev closed : AreOfCosts c.helpers
  closed = closed_helpers u fits pres f function stands c found

  module _ (proofs : ProofsTree) (order : IsInOrder proofs.defines) (specified : spec_of proofs f ≡ Some (balanced (counting_pre f c))) (sums : (g : ℕ) (need : AssertionTree) → is_member g (helpers u f) ≡ true → pres g ≡ Some need → is_of_costs need ≡ true → is_sum need ≡ true) (specs : (g : ℕ) (need : AssertionTree) → is_member g (helpers u f) ≡ true → pres g ≡ Some need → spec_of proofs g ≡ Some (balanced need)) where
    all_sums : AreSums c.helpers
    all_sums = sums_of pres (helpers u f) c.helpers sums is_found

    little : helpers_cost_little c.helpers ≡ true
    little = (counting_is u pres f function c found).little

    whole_little : (g : Helper) (others : List Helper) → c.helpers ≡ g ∷ others → HasLittle (helpers_need c.helpers)
    whole_little g others e =
        little_of (helpers_need c.helpers) (members_of_costs c.helpers closed)
        (subst (λ (hs : List Helper). helpers_cost_little hs ≡ true → costs_little (helpers_need hs) ≡ true) (sym e) (λ h. h) little)

    own : OwnPaid f c closed (least_positive u fits pres f function stands c found) (least_small u fits pres f function stands c found) proofs.defines
    own k t p has one cert h = own_paid_holds f c.helpers (members_of_costs c.helpers closed) whole_little proofs.defines k (own_need f c) t p has one cert h

    -- a call of another function
    other : (call : CallTree) → list_any (is_own call.function) (all_calls_made function.body) ≡ true → Other u fits pres f function stands c found proofs order specified call
    other call m differs =
        let g = call.function in
        let called = body_calls u f function stands g m in
        let helper = helper_listed u fits f g called differs in
        let w = stands_in pres (helpers u f) c.helpers g (helpers_apart u f) is_found helper in
        let there = there_at u.functions g (calls_within u f g fits called) in
        let is : IsHelper f c closed u proofs function (setting u fits pres f function stands c found proofs order specified) g w.need = record {
          callee = there.0;
          there = there.1;
          specified = specs g w.need helper w.pre;
          of_costs = w.of_costs;
          little = little_at g w.need c.helpers w.one_of (all_little c.helpers all_sums closed little);
          one_of = w.one_of;
          sums = all_sums;
        } in (
          helper_paid_start f c closed u proofs function (setting u fits pres f function stands c found proofs order specified) g w.need is differs call.arguments,
          helper_paid_past f c closed u proofs function (setting u fits pres f function stands c found proofs order specified) g w.need is differs call.arguments,
        )

    others : (cs : List CallTree) → Each (λ call. list_any (is_own call.function) (all_calls_made function.body) ≡ true) cs → Each (Other u fits pres f function stands c found proofs order specified) cs
    others [] h = tt
    others (call ∷ cs) h = (other call h.0, others cs h.1)

    pub helped_derived : IsDerived u proofs (counting_entry f c function)
    helped_derived =
        counted_derived u fits pres f function stands c found proofs order specified own (others (all_calls_made function.body) (called_among (all_calls_made function.body) []))
