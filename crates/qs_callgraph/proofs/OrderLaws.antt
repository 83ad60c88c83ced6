-- Orders and cycles of a unit.
use Rattle.std.proofs.Common.{◌≡◌, length, ℕ, ◌<◌, ◌==◌, Bool, true, false, List, [], ◌∷◌, ⊎_elim, inl, inr, refl, sym, ap, ◌∙◌, subst}
use Rattle.std.specs.Prelude.{◌⊎◌}
use Rattle.std.proofs.lemmas.Bool.{both_ways, or_right}
use Rattle.qs_core.specs.CallGraph.{below, called_by, HasCall, IsChain, IsCircle, IsCycle, is_member}
use Rattle.qs_core.specs.Trees.{CoreUnitTree}
use Rattle.qs_callgraph.specs.CallLists.{call_lists, callees_in, flag, numbers}
use Rattle.qs_callgraph.specs.Laws.{OrdersExcludeCycles, OrdersExcludeRecursion}
use Rattle.qs_callgraph.specs.Orders.{CalleesFirst, DepthFirst, IsDepthFirst, IsOrder, IsTrueCycle}
use Rattle.qs_callgraph.specs.Searches.{IsCycleIn, IsOrderIn, IsCircleIn, Ends}
use Rattle.qs_callgraph.specs.declared.fault.CycleFault.{CycleFault}
use Rattle.qs_callgraph.specs.declared.fault.CycleFault.TheVariants.{NoMemory, Cycle}
use Rattle.qs_callgraph.proofs.MemberLaws.{member_first, first_cases, none_pass, none_passes}
use Rattle.qs_callgraph.proofs.PathLaws.{unit_circle}
use Rattle.qs_callgraph.proofs.UnitCalls.{callees_same, length-call_lists, has_caller, is_listed}

-- ---- from the lists of calls to the unit

pub unit_order : (u : CoreUnitTree) (has_spec : List Bool) (fs : List ℕ) → IsOrderIn (call_lists u) has_spec fs → IsOrder u (flag has_spec) fs
unit_order u has_spec fs o = record {
  known = λ f m. subst (λ (n : ℕ). f < n) (length-call_lists u) (o.known f m);
  none = o.none;
  all_there = λ f b free. o.all_there f (subst (λ (n : ℕ). f < n) (sym (length-call_lists u)) b) free;
  in_order = subst (λ (callees : ℕ → List ℕ). CalleesFirst callees (flag has_spec) [] fs) (callees_same u) o.in_order;
}

pub unit_depth_first :
    (u : CoreUnitTree) (graph : List (List ℕ)) (has_spec : List Bool) (n : ℕ) (fs : List ℕ) → graph ≡ call_lists u → n ≡ length graph
    → DepthFirst (callees_in graph) (flag has_spec) [] (below n) fs → IsDepthFirst u (flag has_spec) fs
unit_depth_first u graph has_spec n fs is many d =
    subst (λ (callees : ℕ → List ℕ). DepthFirst callees (flag has_spec) [] (below (length u.functions)) fs) (ap callees_in is ∙ callees_same u)
    (subst (λ (m : ℕ). DepthFirst (callees_in graph) (flag has_spec) [] (below m) fs) (many ∙ ap length is ∙ length-call_lists u) d)

pub unit_cycle : (u : CoreUnitTree) (has_spec : List Bool) (fs : List ℕ) → IsCycleIn (call_lists u) has_spec fs → IsCycle u (flag has_spec) fs
unit_cycle u has_spec fs c = record {
  circle = unit_circle u fs (subst (λ (callees : ℕ → List ℕ). IsCircleIn callees fs) (callees_same u) c.circle);
  none = c.none;
}

pub true_cycle : (u : CoreUnitTree) (has_spec : List Bool) (fault : CycleFault) → Ends (call_lists u) has_spec fault → IsTrueCycle u (flag has_spec) fault
true_cycle u has_spec NoMemory e = tt
true_cycle u has_spec (Cycle fs) e = unit_cycle u has_spec (numbers fs.items) e

-- ---- an order excludes a cycle

-- what a function of a chain calls: one behind it, or the last
record Next (u : CoreUnitTree) (f : ℕ) (fs : List ℕ) (last : ℕ) : Type 0 where
  next : ℕ
  calls : HasCall u f next
  there : (is_member next fs ≡ true) ⊎ (last ≡ next)

next_one : (u : CoreUnitTree) (fs : List ℕ) (last f : ℕ) → IsChain u fs last → is_member f fs ≡ true → Next u f fs last
next_one u [] last f c m = absurd (both_ways false refl m)
next_one u (x ∷ []) last f c m =
    ⊎_elim (λ (e : x ≡ f). subst (λ (y : ℕ). Next u y (x ∷ []) last) e (record { next = last; calls = c; there = inr refl }))
    (λ (n : is_member f [] ≡ true). absurd (both_ways false refl n)) (first_cases f x [] m)
next_one u (x ∷ y ∷ fs) last f c m =
    ⊎_elim (λ (e : x ≡ f). subst (λ (z : ℕ). Next u z (x ∷ y ∷ fs) last) e
    (record { next = y; calls = c.0; there = inl (or_right (x == y) (is_member y (y ∷ fs)) (member_first y fs)) }))
    (λ (n : is_member f (y ∷ fs) ≡ true).
    let r = next_one u (y ∷ fs) last f c.1 n in
    record {
      next = r.next;
      calls = r.calls;
      there = ⊎_elim (λ (k : is_member r.next (y ∷ fs) ≡ true). inl (or_right (x == r.next) (is_member r.next (y ∷ fs)) k)) (λ (e : last ≡ r.next). inr e) r.there;
    }) (first_cases f x (y ∷ fs) m)

-- in a circle each one calls one of the circle
record Calls (u : CoreUnitTree) (f : ℕ) (fs : List ℕ) : Type 0 where
  next : ℕ
  calls : HasCall u f next
  there : is_member next fs ≡ true

circle_next : (u : CoreUnitTree) (fs : List ℕ) (f : ℕ) → IsCircle u fs → is_member f fs ≡ true → Calls u f fs
circle_next u [] f c m = absurd c
circle_next u (x ∷ fs) f c m =
    let r = next_one u (x ∷ fs) x f c m in
    record {
      next = r.next;
      calls = r.calls;
      there = ⊎_elim (λ (k : is_member r.next (x ∷ fs) ≡ true). k) (λ (e : x ≡ r.next). subst (λ (y : ℕ). is_member y (x ∷ fs) ≡ true) e (member_first x fs)) r.there;
    }

pub circle_known : (u : CoreUnitTree) (fs : List ℕ) (f : ℕ) → IsCircle u fs → is_member f fs ≡ true → f < length u.functions
circle_known u fs f c m = let r = circle_next u fs f c m in has_caller u f r.next r.calls

module _ (u : CoreUnitTree) (has_spec : ℕ → Bool) (cycle : List ℕ) (is : IsCycle u has_spec cycle) where
  -- none of the cycle is in the order
  none_there :
      (earlier fs : List ℕ) → CalleesFirst (called_by u) has_spec earlier fs → ((x : ℕ) → is_member x earlier ≡ true → is_member x cycle ≡ true → ⊥)
      → (x : ℕ) → is_member x fs ≡ true → is_member x cycle ≡ true → ⊥
  none_there earlier [] c before x m k = both_ways false refl m
  none_there earlier (f ∷ fs) c before x m k =
      let here : is_member f cycle ≡ true → ⊥ = λ i.
      let r = circle_next u cycle f is.circle i in
      let again = circle_next u cycle r.next is.circle r.there in
      before r.next (c.1 r.next (is_listed u f r.next r.calls (has_caller u r.next again.next again.calls)) (none_passes has_spec cycle r.next is.none r.there)) r.there in
      ⊎_elim (λ (e : f ≡ x). here (subst (λ (y : ℕ). is_member y cycle ≡ true) (sym e) k))
      (λ (n : is_member x fs ≡ true). none_there (f ∷ earlier) fs c.2
      (λ y i j. ⊎_elim (λ (e : f ≡ y). here (subst (λ (z : ℕ). is_member z cycle ≡ true) (sym e) j)) (λ (i : is_member y earlier ≡ true). before y i j) (first_cases y f earlier i))
      x n k) (first_cases x f fs m)

pub orders_exclude_cycles : OrdersExcludeCycles
orders_exclude_cycles u has_spec order [] o c = c.circle
orders_exclude_cycles u has_spec order (f ∷ fs) o c =
    let first = member_first f fs in
    let r = circle_next u (f ∷ fs) f c.circle first in
    none_there u has_spec (f ∷ fs) c [] order o.in_order (λ x m k. both_ways false refl m) f
    (o.all_there f (has_caller u f r.next r.calls) (none_passes has_spec (f ∷ fs) f c.none first)) first

pub orders_exclude_recursion : OrdersExcludeRecursion
orders_exclude_recursion u order o fs circle =
    orders_exclude_cycles u (λ f. false) order fs o (record { circle = circle; none = none_pass (λ f. false) fs (λ f m. refl) })
