-- Without a file main's bound is the longest path, and no part of it is wide.
use Rattle.std.proofs.Common.{◌≡◌, ℕ, suc, ◌+◌, ◌*◌, ◌<◌, ◌≤◌, ◌^◌, ◌==◌, ◌||◌, ◌&&◌, max, Bool, true, false, if◌then◌else◌, ℤ, List, [], ◌∷◌, map, length, Option, Some, None, ⊎_elim, refl, sym, ap, ◌∙◌, subst, arith}
use Rattle.std.specs.Prelude.{All}
use Rattle.std.specs.List.{list_any, AllByRecursion, IsDistinct}
use Rattle.std.proofs.lemmas.Bool.{both_ways, false_from_ne_true, or_right, or_left, lt-leb, eqb-true, eq-eqb, cases_eq, cases_lt, or_from}
use Rattle.std.proofs.lemmas.List.{append-nil, get_or_past}
use Rattle.std.proofs.lemmas.List.Elements.{All-get_or}
use Rattle.std.proofs.lemmas.Map.Steps.{length-le_from_distinct_below}
use Rattle.std.proofs.lemmas.Option.{slice_get_within}
use Rattle.qs_events.specs.Weights.{Costs}
use Rattle.qs_assert.specs.Bounds.{Setting, is_wide_value, wide, some_wide, same_name, is_defined, with_definition, with_definitions, at_entry as setting_at, amount_of, argument, bound_at}
use Rattle.qs_assert.specs.declared.define.Define.{Define}
use Rattle.qs_assert.specs.declared.define.Amount.TheVariants.{Finite, Wide}
use Rattle.qs_assert.specs.declared.variable.Var.{Var}
use Rattle.qs_assert.specs.Trees.{AssertionTree, assertions_of}
use Rattle.qs_assert.specs.Values.{State, Extended, finite, or_infinite, plus, greater, value}
use Rattle.qs_core.specs.CallGraph.{called_by, IsOpen, is_member}
use Rattle.qs_core.specs.Fits.{unit_fits}
use Rattle.qs_core.specs.Trees.{CoreUnitTree}
use Rattle.qs_core.specs.FunctionNames.{function_name}
use Rattle.qs_triples.specs.Derivations.{ProofsTree}
use Rattle.qs_triples.specs.Entries.{AreClosed, has_entry}
use Rattle.qs_triples.specs.Filled.{for_call, for_calls, open_definition, pre_in, pre_of, CalleesFirst, Filled}
use Rattle.qs_triples.specs.Valuations.{state_of, number_at, at_entry, value_at_entry}
use Rattle.qs_triples.proofs.Names.{state_is}
use Rattle.qs_callgraph.proofs.MemberLaws.{member_first, first_cases}
use Rattle.qs_prooftext_meaning.specs.Proofs.{no_proofs}
use Rattle.qs_analyse.specs.Paths.{IsLongestPath}
use Rattle.qs_analyse.proofs.NameLaws.{same_self, one_name}
use Rattle.qs_analyse.proofs.NeedLaws.{call_value, greatest_value, calls_value}
use Rattle.qs_analyse.proofs.OpenNames.{by_name, costs_of_state}
use Rattle.qs_analyse.proofs.PathLaws.{open_names_are_longest_paths}
use Rattle.qs_certify.specs.Bound.{main_bound, costs_of}
use Rattle.qs_certify.specs.Laws.{BoundsAreLongestPaths}
use Rattle.qs_certify.proofs.MainLaws.{entry_bounds_runs}

-- ---- how many functions there are in an order

not_again : (u : CoreUnitTree) (earlier fs : List ℕ) (f : ℕ) → CalleesFirst u earlier fs → is_member f earlier ≡ true → is_member f fs ≡ false
not_again u earlier [] f c m = refl
not_again u earlier (g ∷ fs) f c m =
    false_from_ne_true (is_member f (g ∷ fs)) (λ k. ⊎_elim
    (λ (e : g ≡ f). both_ways (is_member g earlier) c.0 (subst (λ (h : ℕ). is_member h earlier ≡ true) (sym e) m))
    (λ (k : is_member f fs ≡ true). both_ways (is_member f fs) (not_again u (g ∷ earlier) fs f c.2 (or_right (g == f) (is_member f earlier) m)) k)
    (first_cases f g fs k))

none_same : (f : ℕ) (fs : List ℕ) → is_member f fs ≡ false → AllByRecursion (λ g. (f == g) ≡ false) fs
none_same f [] m = tt
none_same f (g ∷ fs) m = (
  false_from_ne_true (f == g) (λ e. both_ways (is_member f (g ∷ fs)) m (or_left (g == f) (is_member f fs) (eq-eqb g f (sym (eqb-true f g e))))),
  none_same f fs (false_from_ne_true (is_member f fs) (λ k. both_ways (is_member f (g ∷ fs)) m (or_right (g == f) (is_member f fs) k))),
)

distinct : (u : CoreUnitTree) (earlier fs : List ℕ) → CalleesFirst u earlier fs → IsDistinct ◌==◌ fs
unfolding IsDistinct
distinct u earlier [] c = tt
distinct u earlier (f ∷ fs) c =
    (none_same f fs (not_again u (f ∷ earlier) fs f c.2 (member_first f earlier)), distinct u (f ∷ earlier) fs c.2)

member_of : (f : ℕ) (fs : List ℕ) → list_any (λ g. f == g) fs ≡ true → is_member f fs ≡ true
member_of f [] h = h
member_of f (g ∷ fs) h =
    ⊎_elim
    (λ (e : g ≡ f). or_left (g == f) (is_member f fs) (eq-eqb g f e))
    (λ (d : g ≡ f → ⊥). or_right (g == f) (is_member f fs) (member_of f fs (behind (f == g) refl h d)))
    (cases_eq g f)
  where
    behind : (b : Bool) → (f == g) ≡ b → (b || list_any (λ g. f == g) fs) ≡ true → (g ≡ f → ⊥) → list_any (λ g. f == g) fs ≡ true
    behind true is h d = absurd (d (sym (eqb-true f g is)))
    behind false is h d = h

few_in_order : (u : CoreUnitTree) (fs : List ℕ) → CalleesFirst u [] fs → ((f : ℕ) → is_member f fs ≡ true → f < length u.functions) → length fs ≤ length u.functions
few_in_order u fs c within =
    length-le_from_distinct_below fs (length u.functions) (distinct u [] fs c) (λ f m. within f (member_of f fs m))

-- ---- nothing is wide

-- the greatest cost that isn't reached
abbrev most : ℕ
most = 2 ^ 32

narrow : (n : ℕ) → n < 2 ^ 127 → is_wide_value (finite n) ≡ false
narrow n h = lt-leb (2 ^ 127) n h

module _ (u : CoreUnitTree) (fits : unit_fits u ≡ true) (limit : ℕ) (few : limit < 2 ^ 63) where
  -- a name with so great a value
  record HasAmount (s : State) (f k : ℕ) : Type 0 where
    amount : ℕ
    is : s.names (function_name u f) ≡ Some (finite amount)
    small : amount ≤ k * most

  -- the names of these functions have values that are small, and no part of them is wide; no other function's name has one
  record AreSmall (g : Setting) (fs : List ℕ) : Type 0 where
    amounts : (f : ℕ) → is_member f fs ≡ true → HasAmount g.state f (length fs)
    plain : (f : ℕ) → is_member f fs ≡ true → g.wides (function_name u f) ≡ false
    others : (f : ℕ) → f < length u.functions → is_member f fs ≡ false → g.state.names (function_name u f) ≡ None
    within : (f : ℕ) → is_member f fs ≡ true → f < length u.functions
    cheap : (f : ℕ) → g.state.costs f < most

  -- of calls of these
  record SmallCalls (g : Setting) (k : ℕ) (v : Extended) (wide : Bool) : Type 0 where
    amount : ℕ
    is : v ≡ finite amount
    small : amount ≤ suc k * most
    plain : wide ≡ false

  one_call : (g : Setting) (k h : ℕ) → k ≤ limit → g.state.costs h < most → HasAmount g.state h k → g.wides (function_name u h) ≡ false
      → SmallCalls g k (value (for_call (by_name u) h) g.state) (wide (for_call (by_name u) h) g.state g.wides)
  one_call g k h below cheap a plain =
      let s = g.state in
      let is : value (for_call (by_name u) h) s ≡ finite (s.costs h + a.amount) = call_value (by_name u) h s ∙ ap (λ (o : Option Extended). plus (finite (s.costs h)) (or_infinite o)) a.is in
      let small = a.small in
      let top : s.costs h + a.amount ≤ suc k * most = omega (arith, small, cheap) in
      record {
        amount = s.costs h + a.amount;
        is = is;
        small = top;
        plain = or_from (is_wide_value (finite (s.costs h)) || (g.wides (function_name u h) || false)) (is_wide_value (value (for_call (by_name u) h) s))
            (or_from (is_wide_value (finite (s.costs h))) (g.wides (function_name u h) || false) (narrow (s.costs h) (omega (arith, cheap))) (or_from (g.wides (function_name u h)) false plain refl))
            (ap is_wide_value is ∙ narrow (s.costs h + a.amount) (omega (arith, top, below, few)));
      }

  parts : (g : Setting) (k : ℕ) (hs : List ℕ) → k ≤ limit → ((h : ℕ) → g.state.costs h < most) → ((h : ℕ) → is_member h hs ≡ true → HasAmount g.state h k)
      → ((h : ℕ) → is_member h hs ≡ true → g.wides (function_name u h) ≡ false)
      → SmallCalls g k (greatest_value (by_name u) hs g.state) (some_wide (assertions_of (map (for_call (by_name u)) hs)) g.state g.wides)
  parts g k [] below cheap amounts plain = record { amount = 0; is = refl; small = omega arith; plain = refl }
  parts g k (h ∷ hs) below cheap amounts plain =
      let one = one_call g k h below (cheap h) (amounts h (member_first h hs)) (plain h (member_first h hs)) in
      let rest = parts g k hs below cheap (λ i m. amounts i (or_right (h == i) (is_member i hs) m)) (λ i m. plain i (or_right (h == i) (is_member i hs) m)) in
      let small = one.small in
      let others = rest.small in
      record {
        amount = max one.amount rest.amount;
        is = (λ i. greater (one.is i) (rest.is i));
        small = omega (arith, small, others);
        plain = or_from (wide (for_call (by_name u) h) g.state g.wides) (some_wide (assertions_of (map (for_call (by_name u)) hs)) g.state g.wides) one.plain rest.plain;
      }

  -- what a function needs whose callees these are
  body : (g : Setting) (k : ℕ) (hs : List ℕ) → k ≤ limit → ((h : ℕ) → g.state.costs h < most) → ((h : ℕ) → is_member h hs ≡ true → HasAmount g.state h k)
      → ((h : ℕ) → is_member h hs ≡ true → g.wides (function_name u h) ≡ false)
      → SmallCalls g k (value (for_calls (by_name u) hs) g.state) (wide (for_calls (by_name u) hs) g.state g.wides)
  body g k [] below cheap amounts plain = record { amount = 0; is = refl; small = omega arith; plain = narrow 0 (omega arith) }
  body g k (h ∷ []) below cheap amounts plain = one_call g k h below (cheap h) (amounts h (member_first h [])) (plain h (member_first h []))
  body g k (h ∷ i ∷ hs) below cheap amounts plain =
      let all = parts g k (h ∷ i ∷ hs) below cheap amounts plain in
      let is : value (for_calls (by_name u) (h ∷ i ∷ hs)) g.state ≡ finite all.amount = calls_value (by_name u) (h ∷ i ∷ hs) g.state ∙ all.is in
      let small = all.small in
      record {
        amount = all.amount;
        is = is;
        small = all.small;
        plain = or_from _ _ all.plain (ap is_wide_value is ∙ narrow all.amount (omega (arith, small, below, few)));
      }

  -- ---- a definition more

  has_value : (s : State) (n : List ℕ) (v : Extended) → s.names n ≡ Some v → is_defined s n ≡ true
  has_value s n v e = ap (λ o. elim o [ Some w ↦ true | None ↦ false ]) e

  has_none : (s : State) (n : List ℕ) → s.names n ≡ None → is_defined s n ≡ false
  has_none s n e = ap (λ o. elim o [ Some w ↦ true | None ↦ false ]) e

  stays : (d : Define) (g : Setting) (n : List ℕ) (v : Extended) → g.state.names n ≡ Some v → (with_definition d g).state.names n ≡ Some v
  stays d g n v e =
      ap (λ b. if b then g.state.names n else (if same_name n d.name then Some (value d.body g.state) else None)) (has_value g.state n v e) ∙ e

  takes : (d : Define) (g : Setting) (n : List ℕ) (b : Bool) → g.state.names n ≡ None → same_name n d.name ≡ b → (with_definition d g).state.names n ≡ (if b then Some (value d.body g.state) else None)
  takes d g n b e is =
      ap (λ c. if c then g.state.names n else (if same_name n d.name then Some (value d.body g.state) else None)) (has_none g.state n e)
      ∙ ap (λ c. if c then Some (value d.body g.state) else None) is

  plain_or : (d : Define) (g : Setting) (n : List ℕ) → (is_defined g.state n ≡ true → g.wides n ≡ false) → wide d.body g.state g.wides ≡ false → (with_definition d g).wides n ≡ false
  plain_or d g n known here = by (is_defined g.state n) known
    where
      neither : (b : Bool) → (b && false) ≡ false
      neither true = refl
      neither false = refl

      by : (b : Bool) → (b ≡ true → g.wides n ≡ false) → (if b then g.wides n else (same_name n d.name && wide d.body g.state g.wides)) ≡ false
      by true k = k refl
      by false k = ap (λ c. same_name n d.name && c) here ∙ neither (same_name n d.name)

  one_more :
      (g : Setting) (fs : List ℕ) (f : ℕ) → AreSmall g fs → length fs ≤ limit → f < length u.functions → is_member f fs ≡ false
      → ((h : ℕ) → is_member h (called_by u f) ≡ true → is_member h fs ≡ true) → AreSmall (with_definition (open_definition u f) g) (f ∷ fs)
  one_more g fs f a short b new called =
      let d = open_definition u f in
      let need = body g (length fs) (called_by u f) short a.cheap (λ h m. a.amounts h (called h m)) (λ h m. a.plain h (called h m)) in
      record {
        amounts = λ h m. ⊎_elim
            (λ (e : f ≡ h). subst (λ (x : ℕ). HasAmount (with_definition d g).state x (length (f ∷ fs))) e (record {
              amount = need.amount;
              is = takes d g (function_name u f) true (a.others f b new) (same_self (function_name u f)) ∙ ap Some need.is;
              small = need.small;
            }))
            (λ (k : is_member h fs ≡ true).
            let old = a.amounts h k in
            let small = old.small in
            record { amount = old.amount; is = stays d g (function_name u h) (finite old.amount) old.is; small = omega (arith, small) })
            (first_cases h f fs m);
        plain = λ h m. plain_or d g (function_name u h) (λ known. ⊎_elim
            (λ (e : f ≡ h). absurd (both_ways (is_defined g.state (function_name u h)) (subst (λ (x : ℕ). is_defined g.state (function_name u x) ≡ false) e (has_none g.state (function_name u f) (a.others f b new))) known))
            (λ (k : is_member h fs ≡ true). a.plain h k) (first_cases h f fs m)) need.plain;
        others = λ h c m.
            takes d g (function_name u h) false
            (a.others h c (false_from_ne_true (is_member h fs) (λ k. both_ways (is_member h (f ∷ fs)) m (or_right (f == h) (is_member h fs) k))))
            (false_from_ne_true (same_name (function_name u h) (function_name u f)) (λ k.
            both_ways (is_member h (f ∷ fs)) m (subst (λ (x : ℕ). is_member x (f ∷ fs) ≡ true) (sym (one_name u h f fits c b k)) (member_first f fs))));
        within = λ h m. ⊎_elim (λ (e : f ≡ h). subst (λ (x : ℕ). x < length u.functions) e b) (λ (k : is_member h fs ≡ true). a.within h k) (first_cases h f fs m);
        cheap = a.cheap;
      }

  -- those that were there, and these
  abbrev behind : List ℕ → List ℕ → List ℕ
  behind earlier [] = earlier
  behind earlier (f ∷ fs) = behind (f ∷ earlier) fs

  all_more :
      (g : Setting) (earlier fs : List ℕ) → CalleesFirst u earlier fs → AreSmall g earlier → length earlier + length fs ≤ limit
      → ((f : ℕ) → is_member f fs ≡ true → f < length u.functions) → AreSmall (with_definitions (map (open_definition u) fs) g) (behind earlier fs)
  all_more g earlier [] c a short within = a
  all_more g earlier (f ∷ fs) c a short within =
      all_more (with_definition (open_definition u f) g) (f ∷ earlier) fs c.2
      (one_more g earlier f a (omega (arith, short)) (within f (member_first f fs)) c.0 c.1) (omega (arith, short)) (λ h m. within h (or_right (f == h) (is_member h fs) m))

  there : (earlier fs : List ℕ) (f : ℕ) → is_member f earlier ≡ true → is_member f (behind earlier fs) ≡ true
  there earlier [] f h = h
  there earlier (x ∷ fs) f h = there (x ∷ earlier) fs f (or_right (x == f) (is_member f earlier) h)

  among : (earlier fs : List ℕ) (f : ℕ) → is_member f fs ≡ true → is_member f (behind earlier fs) ≡ true
  among earlier [] f h = absurd (both_ways false refl h)
  among earlier (x ∷ fs) f h =
      ⊎_elim
      (λ (e : x ≡ f). there (x ∷ earlier) fs f (subst (λ (y : ℕ). is_member y (x ∷ earlier) ≡ true) e (member_first x earlier)))
      (λ (k : is_member f fs ≡ true). among (x ∷ earlier) fs f k) (first_cases f x fs h)

  length-behind : (earlier fs : List ℕ) → length (behind earlier fs) ≡ length earlier + length fs
  length-behind earlier [] = omega arith
  length-behind earlier (f ∷ fs) = let e = length-behind (f ∷ earlier) fs in omega (arith, e)

-- ---- main

cheap_at : (costs : List ℕ) → All (λ c. c < 2 ^ 32) costs → (f : ℕ) → costs_of costs f < 2 ^ 32
cheap_at costs all f =
    ⊎_elim
    (λ (b : f < length costs). All-get_or (λ c. c < 2 ^ 32) costs f 0 b all)
    (λ (b : length costs ≤ f). let past = get_or_past costs f 0 b in omega (arith, past))
    (cases_lt f (length costs))

same_finite : (n m : ℕ) → finite n ≡ finite m → n ≡ m
same_finite n m e = cc

module _ (u : CoreUnitTree) (proofs : ProofsTree) (costs : List ℕ) (arguments : List ℤ) (fits : unit_fits u ≡ true) (few : length u.functions < 2 ^ 63) (cheap : All (λ c. c < 2 ^ 32) costs)
    (filled : Filled u no_proofs proofs) (closed : AreClosed proofs.defines) (within : u.main < length u.functions) where
  abbrev start : Setting
  start = setting_at arguments costs

  abbrev final : Setting
  final = with_definitions proofs.defines start

  open_main : IsOpen u (has_entry no_proofs) u.main
  open_main = record { known = within; none = λ g l. refl }

  member : is_member u.main filled.opened ≡ true
  member = filled.are_open.all_there u.main open_main

  known : (f : ℕ) → is_member f filled.opened ≡ true → f < length u.functions
  known f k = (filled.are_open.open_ones f k).known

  fewer : length filled.opened ≤ length u.functions
  fewer = few_in_order u filled.opened filled.are_open.in_order known

  abbrev found : List ℕ
  found = behind u fits (length u.functions) few [] filled.opened

  found_few : length found ≤ length u.functions
  found_few = let e = length-behind u fits (length u.functions) few [] filled.opened in omega (arith, e, fewer)

  empty : AreSmall u fits (length u.functions) few start []
  empty = record {
    amounts = λ f k. absurd (both_ways false refl k);
    plain = λ f k. absurd (both_ways false refl k);
    others = λ f b k. refl;
    within = λ f k. absurd (both_ways false refl k);
    cheap = cheap_at costs cheap;
  }

  small : AreSmall u fits (length u.functions) few final found
  small =
      subst (λ (ds : List Define). AreSmall u fits (length u.functions) few (with_definitions ds start) found) (sym (append-nil (map (open_definition u) filled.opened)) ∙ sym filled.defines)
      (all_more u fits (length u.functions) few start [] filled.opened filled.are_open.in_order empty (omega (arith, fewer)) known)

  there_main : is_member u.main found ≡ true
  there_main = among u fits (length u.functions) few [] filled.opened u.main member

  -- what main costs, and its name
  whole : SmallCalls u fits (length u.functions) few final (length found) (value (for_call (by_name u) u.main) final.state) (wide (for_call (by_name u) u.main) final.state final.wides)
  whole = one_call u fits (length u.functions) few final (length found) u.main found_few (small.cheap u.main) (small.amounts u.main there_main) (small.plain u.main there_main)

  bound_is : pre_of proofs u.main ≡ by_name u u.main → main_bound u proofs costs arguments ≡ Finite whole.amount
  bound_is pre =
      ap (λ (a : AssertionTree). bound_at a proofs.defines arguments costs u.main) pre
      ∙ ap (λ (b : Bool). if b then Wide else amount_of (value (for_call (by_name u) u.main) final.state)) whole.plain ∙ ap amount_of whole.is

  -- the name has one value at all arguments
  name_value : (numbers : Var → ℤ) → value (by_name u u.main) final.state ≡ value (by_name u u.main) (state_of (costs_of costs) proofs.defines numbers)
  name_value numbers =
      ap (value (by_name u u.main)) (state_is (costs_of costs) proofs.defines closed (λ x. argument arguments x.kind))
      ∙ sym (ap (value (by_name u u.main)) (state_is (costs_of costs) proofs.defines closed numbers))

  whole_value : (numbers : Var → ℤ) → finite whole.amount ≡ plus (finite (costs_of costs u.main)) (value (by_name u u.main) (state_of (costs_of costs) proofs.defines numbers))
  whole_value numbers =
      sym whole.is ∙ call_value (by_name u) u.main final.state
      ∙ ap (λ (cost : Costs). plus (finite (cost u.main)) (value (by_name u u.main) final.state)) (costs_of_state (costs_of costs) proofs.defines (λ x. argument arguments x.kind))
      ∙ ap (plus (finite (costs_of costs u.main))) (name_value numbers)

pub bounds_are_longest_paths : BoundsAreLongestPaths
bounds_are_longest_paths u given proofs costs arguments fits few cheap c =
    let filled : Filled u no_proofs proofs = subst (λ (p : ProofsTree). Filled u p proofs) c.given_is c.all.filled in
    let m = entry_bounds_runs u given proofs fits c.covers in
    let within = slice_get_within u.functions u.main m.main m.is_main in
    let closed = c.covers.closed in
    let pre : m.entry.spec.pre ≡ by_name u u.main = (filled.of_open u.main m.entry (member u proofs costs arguments fits few cheap filled closed within) m.stands).0 in
    let path = open_names_are_longest_paths u no_proofs proofs (costs_of costs) u.main m.main [] m.entry fits filled (open_main u proofs costs arguments fits few cheap filled closed within) m.is_main m.stands in
    let all = whole u proofs costs arguments fits few cheap filled closed within in
    let numbers = number_at m.main (at_entry m.main []) in
    let same : all.amount ≡ path.length =
    same_finite all.amount path.length
    (whole_value u proofs costs arguments fits few cheap filled closed within numbers
    ∙ ap (λ (a : AssertionTree). plus (finite (costs_of costs u.main)) (value_at_entry (costs_of costs) proofs.defines m.main [] a)) (sym pre) ∙ path.bound) in
    record {
      bound = all.amount;
      is = bound_is u proofs costs arguments fits few cheap filled closed within (ap pre_in m.stands ∙ pre);
      longest = subst (IsLongestPath u (costs_of costs) u.main) (sym same) path.longest;
    }
