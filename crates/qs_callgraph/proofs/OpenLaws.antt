-- Which functions lead to a specification, and which are open.
use Rattle.std.proofs.Common.{◌≡◌, ℕ, zero, suc, ◌<◌, ◌≤◌, ◌||◌, ◌&&◌, Bool, true, false, List, [], ◌∷◌, ◌++◌, filter, length, get_or, set, map, ⊎_elim, inl, inr, refl, sym, ap, ◌∙◌, subst, arith}
use Rattle.std.specs.Prelude.{not}
use Rattle.std.proofs.lemmas.Bool.{both_ways, false_from_ne_true, or_left, or_right, or_cases, and_from, cases_lt, cases_eq, cases_Bool, not-true, not_from_false}
use Rattle.std.proofs.lemmas.List.{get_or-set_same, get_or-set_other, length_push, get_or_past, get_or-map, length-map}
use Rattle.std.proofs.lemmas.List.Sums.{sum_by-set}
use Rattle.qs_core.specs.CallGraph.{below, HasCall, Leads, no_call, first_call, is_member}
use Rattle.qs_core.specs.Fits.{unit_fits}
use Rattle.qs_core.specs.Trees.{CoreUnitTree}
use Rattle.qs_callgraph.specs.CallLists.{call_lists, callees_in, flag, IsGraph}
use Rattle.qs_callgraph.specs.Opens.{AreOf, TellsOpen, AreCallers, LeadsToSpec, has_one, calls_one, Closes, AreClosed, as_one, AddsDue, ClosesCallers}
use Rattle.qs_callgraph.proofs.MarkLaws.{flag-marked, length-marked}
use Rattle.qs_callgraph.proofs.MemberLaws.{member_cases, member_kept, member_last, member-filter, member_below}
use Rattle.qs_callgraph.proofs.UnitCalls.{callees_are, length-call_lists, is_listed, is_call, calls_within}

-- a value that is true is one of the list
pub flag_within : (flags : List Bool) (f : ℕ) → flag flags f ≡ true → f < length flags
flag_within flags f t =
    ⊎_elim (λ (l : f < length flags). l) (λ (l : length flags ≤ f). absurd (both_ways false refl (sym (get_or_past flags f false l) ∙ t))) (cases_lt f (length flags))

-- ---- callers are closed

pub one_due :
    (old now : List Bool) (before due : List ℕ) (f : ℕ) → AddsDue old now before due → f < length now → flag now f ≡ false
    → AddsDue old (set now f true) before (due ++ f ∷ [])
one_due old now before due f a b n = record {
  kept = λ g m. member_kept g due (f ∷ []) (a.kept g m);
  added = λ g o t. ⊎_elim
      (λ (e : g ≡ f). subst (λ (x : ℕ). is_member x (due ++ f ∷ []) ≡ true) (sym e) (member_last f due))
      (λ (d : g ≡ f → ⊥). member_kept g due (f ∷ []) (a.added g o (sym (get_or-set_other now f g true false d) ∙ t)))
      (cases_eq g f);
  closed = λ g m. ⊎_elim
      (λ (k : is_member g due ≡ true). ⊎_elim (λ (i : is_member g before ≡ true). inl i) (λ (t : flag now g ≡ true). inr (stays g t)) (a.closed g k))
      (λ (e : f ≡ g). inr (ap (flag (set now f true)) (sym e) ∙ get_or-set_same now f true false b))
      (member_cases g f due m);
  as_many =
      let l = length_push due f in
      let s = sum_by-set as_one now f true false b in
      let o : as_one (get_or now f false) ≡ 1 = ap as_one n in
      let m = a.as_many in
      omega (arith, l, s, o, m);
}
  where
    stays : (g : ℕ) → flag now g ≡ true → flag (set now f true) g ≡ true
    stays g t = ⊎_elim (λ (e : g ≡ f). ap (flag (set now f true)) e ∙ get_or-set_same now f true false b) (λ (d : g ≡ f → ⊥). get_or-set_other now f g true false d ∙ t) (cases_eq g f)

-- it was closed already
pub set_closed : (closed : List Bool) (f : ℕ) → flag closed f ≡ true → set closed f true ≡ closed
set_closed [] f t = refl
set_closed (c ∷ closed) zero t = ap (λ (b : Bool). b ∷ closed) (sym t)
set_closed (c ∷ closed) (suc f) t = ap (λ (cs : List Bool). c ∷ cs) (set_closed closed f t)

-- ---- the loop over those that are due

-- those with a specification are due
pub due_first :
    (callers : List (List ℕ)) (has_spec : List Bool) (due : List ℕ) → length has_spec ≡ length callers
    → due ≡ filter (flag has_spec) (below (length has_spec)) → Closes callers has_spec has_spec due
due_first callers has_spec due many is = record {
  as_many = many;
  of_specs = λ f t. t;
  of_calls = λ f g m t n. absurd (both_ways (is_member g due) n (all_due g t));
  lead = λ f t. has_one f t;
  due_closed = λ g m. spec_of g (sym (ap (is_member g) is) ∙ m);
}
  where
    all_due : (g : ℕ) → flag has_spec g ≡ true → is_member g due ≡ true
    all_due g t = ap (is_member g) is ∙ member-filter (flag has_spec) g (below (length has_spec)) ∙ and_from (flag has_spec g) (is_member g (below (length has_spec))) t (member_below (length has_spec) g (flag_within has_spec g t))

    first_and : (a b : Bool) → (a && b) ≡ true → a ≡ true
    first_and true b e = refl
    first_and false b e = e

    spec_of : (g : ℕ) → is_member g (filter (flag has_spec) (below (length has_spec))) ≡ true → flag has_spec g ≡ true
    spec_of g m = first_and (flag has_spec g) (is_member g (below (length has_spec))) (sym (member-filter (flag has_spec) g (below (length has_spec))) ∙ m)

-- the callers of one that was due are closed
pub closes_more :
    (callers : List (List ℕ)) (has_spec old new : List Bool) (before due : List ℕ) (g : ℕ)
    → ((g f : ℕ) → is_member f (callees_in callers g) ≡ true → f < length callers) → Closes callers has_spec old (before ++ g ∷ [])
    → ClosesCallers old new before due (callees_in callers g) → Closes callers has_spec new due
closes_more callers has_spec old new before due g callers_within c k = record {
  as_many = ap length k.closed ∙ length-marked (callees_in callers g) old ∙ c.as_many;
  of_specs = λ f t. stays f (c.of_specs f t);
  of_calls = λ f h m t n. ⊎_elim
      (λ (o : flag old h ≡ true). ⊎_elim
      (λ (e : h ≡ g). marked_one f (subst (λ (x : ℕ). is_member f (callees_in callers x) ≡ true) e m))
      (λ (d : h ≡ g → ⊥). stays f (c.of_calls f h m o (false_from_ne_true (is_member h (before ++ g ∷ [])) (λ i.
      ⊎_elim (λ (i : is_member h before ≡ true). both_ways (is_member h due) n (k.adds.kept h i)) (λ (e : g ≡ h). d (sym e)) (member_cases h g before i)))))
      (cases_eq h g))
      (λ (o : flag old h ≡ false). absurd (both_ways (is_member h due) n (k.adds.added h o t)))
      (cases_Bool (flag old h));
  lead = λ f t. ⊎_elim
      (λ (o : flag old f ≡ true). c.lead f o)
      (λ (m : is_member f (callees_in callers g) ≡ true). calls_one f g m (c.lead g (c.due_closed g (member_last g before))))
      (or_cases (flag old f) (is_member f (callees_in callers g)) (sym (new_flag f (within f t)) ∙ t));
  due_closed = λ h m. ⊎_elim (λ (i : is_member h before ≡ true). stays h (c.due_closed h (member_kept h before (g ∷ []) i))) (λ (t : flag new h ≡ true). t) (k.adds.closed h m);
}
  where
    new_flag : (f : ℕ) → f < length old → flag new f ≡ (flag old f || is_member f (callees_in callers g))
    new_flag f b = ap (λ (flags : List Bool). flag flags f) k.closed ∙ flag-marked (callees_in callers g) old f b

    within : (f : ℕ) → flag new f ≡ true → f < length old
    within f t = subst (λ (n : ℕ). f < n) (ap length k.closed ∙ length-marked (callees_in callers g) old) (flag_within new f t)

    stays : (f : ℕ) → flag old f ≡ true → flag new f ≡ true
    stays f t = new_flag f (flag_within old f t) ∙ or_left (flag old f) (is_member f (callees_in callers g)) t

    marked_one : (f : ℕ) → is_member f (callees_in callers g) ≡ true → flag new f ≡ true
    marked_one f m = new_flag f (subst (λ (n : ℕ). f < n) (sym c.as_many) (callers_within g f m)) ∙ or_right (flag old f) (is_member f (callees_in callers g)) m

-- ---- open functions

module _ (u : CoreUnitTree) (fits : unit_fits u ≡ true) (callers : List (List ℕ)) (are : AreCallers (call_lists u) callers) (has_spec closed : List Bool) (is : AreClosed callers has_spec closed) (test : ℕ → Bool) (of : AreOf u test has_spec) where
  is_caller : (f g : ℕ) → HasCall u f g → is_member f (callees_in callers g) ≡ true
  is_caller f g h = are.same f g ∙ ap (is_member g) (callees_are u f) ∙ is_listed u f g h (calls_within u f g fits h)

  calls_it : (f g : ℕ) → is_member f (callees_in callers g) ≡ true → HasCall u f g
  calls_it f g m = is_call u f g (sym (ap (is_member g) (callees_are u f)) ∙ sym (are.same f g) ∙ m)

  not_closed : (f : ℕ) → f < length u.functions → flag closed f ≡ false → test f ≡ false
  not_closed f b n = sym (of.same f b) ∙ false_from_ne_true (flag has_spec f) (λ t. both_ways (flag closed f) n (is.of_specs f t))

  -- what isn't closed leads to no specification
  none : (f g : ℕ) → Leads u f g → f < length u.functions → flag closed f ≡ false → test g ≡ false
  none _ _ (no_call f) b n = not_closed f b n
  none _ _ (first_call f h g c l) b n =
      none h g l (calls_within u f h fits c)
      (false_from_ne_true (flag closed h) (λ t. both_ways (flag closed f) n (is.of_calls f h (is_caller f h c) t refl)))

  -- what is closed leads to one
  record Leading (f : ℕ) : Type 0 where
    to : ℕ
    leads : Leads u f to
    has : test to ≡ true

  leading : (f : ℕ) → LeadsToSpec callers has_spec f → Leading f
  leading _ (has_one f t) =
      record { to = f; leads = no_call f; has = sym (of.same f (subst (λ (n : ℕ). f < n) of.as_many (flag_within has_spec f t))) ∙ t }
  leading _ (calls_one f g m l) =
      let r = leading g l in record { to = r.to; leads = first_call f g r.to (calls_it f g m) r.leads; has = r.has }

  many : length closed ≡ length u.functions
  many = is.as_many ∙ are.as_many ∙ length-call_lists u

  pub tells_open : (flags : List Bool) → flags ≡ map not closed → TellsOpen u test (flag flags)
  tells_open flags e = record {
    open_ones = λ f t.
        let b : f < length closed = subst (λ (n : ℕ). f < n) (ap length e ∙ length-map closed not) (flag_within flags f t) in
        let n : flag closed f ≡ false = not-true (flag closed f) (sym (get_or-map not closed f false false b) ∙ sym (ap (λ (flags : List Bool). flag flags f) e) ∙ t) in
        let w : f < length u.functions = subst (λ (n : ℕ). f < n) many b in
        record { known = w; none = λ g l. none f g l w n };
    all_there = λ f o.
        let b : f < length closed = subst (λ (n : ℕ). f < n) (sym many) o.known in
        let n : flag closed f ≡ false = false_from_ne_true (flag closed f) (λ t. let r = leading f (is.lead f t) in both_ways (test r.to) (o.none r.to r.leads) r.has) in
        ap (λ (flags : List Bool). flag flags f) e ∙ get_or-map not closed f false false b ∙ not_from_false (flag closed f) n;
  }

-- callers are functions too
pub callers_graph : (graph callers : List (List ℕ)) (flags : List Bool) → AreCallers graph callers → length flags ≡ length graph → IsGraph callers flags
callers_graph graph callers flags are many = record {
  as_many = many ∙ sym are.as_many;
  within = λ g f m. subst (λ (n : ℕ). f < n) (sym are.as_many) (⊎_elim
      (λ (l : f < length graph). l)
      (λ (l : length graph ≤ f). absurd (both_ways false refl (sym (ap (is_member g) (get_or_past graph f [] l)) ∙ sym (are.same f g) ∙ m)))
      (cases_lt f (length graph)));
}
