-- The names of open functions have the costs of the longest paths.
use Rattle.std.proofs.Common.{◌≡◌, ℕ, ◌+◌, ◌<◌, ◌≤◌, ◌==◌, max, true, false, List, [], ◌∷◌, ⊎_elim, refl, ap, ◌∙◌, subst, arith}
use Rattle.std.proofs.lemmas.Bool.{both_ways, or_right, cases_lt}
use Rattle.qs_assert.specs.Trees.{AssertionTree}
use Rattle.qs_assert.specs.Values.{State, Extended, finite, greater, plus, value}
use Rattle.qs_core.specs.CallGraph.{called_by, HasCall, is_member}
use Rattle.qs_core.specs.Fits.{unit_fits}
use Rattle.qs_core.specs.Trees.{CoreUnitTree}
use Rattle.qs_triples.specs.Filled.{for_call, CalleesFirst}
use Rattle.qs_triples.specs.Valuations.{state_of, number_at, at_entry}
use Rattle.qs_callgraph.proofs.MemberLaws.{member_first, first_cases}
use Rattle.qs_callgraph.proofs.UnitCalls.{calls_within, is_listed, is_call}
use Rattle.qs_analyse.specs.Laws.{OpenNamesAreLongestPaths}
use Rattle.qs_analyse.specs.Paths.{IsChainFrom, IsLongestPath, total_cost}
use Rattle.qs_analyse.proofs.NeedLaws.{call_value, greatest_value, calls_value}
use Rattle.qs_analyse.proofs.OpenNames.{by_name, open_body, costs_of_state}
use Rattle.qs_analyse.proofs.ValidLaws.{open_value}

module _ (u : CoreUnitTree) (fits : unit_fits u ≡ true) (s : State) where
  -- the value of a function's name, and the chain behind the function that has it
  record Known (f : ℕ) : Type 0 where
    amount : ℕ
    value_is : value (by_name u f) s ≡ finite amount
    chain : List ℕ
    is_chain : IsChainFrom u f chain
    reached : total_cost s.costs chain ≡ amount
    bound : (gs : List ℕ) → IsChainFrom u f gs → total_cost s.costs gs ≤ amount

  -- over some of the functions that f calls
  record Over (f : ℕ) (gs : List ℕ) : Type 0 where
    amount : ℕ
    value_is : greatest_value (by_name u) gs s ≡ finite amount
    chain : List ℕ
    is_chain : IsChainFrom u f chain
    reached : total_cost s.costs chain ≡ amount
    bound : (g : ℕ) (hs : List ℕ) → is_member g gs ≡ true → IsChainFrom u g hs → s.costs g + total_cost s.costs hs ≤ amount

  one_call : (g a : ℕ) → value (by_name u g) s ≡ finite a → value (for_call (by_name u) g) s ≡ finite (s.costs g + a)
  one_call g a h = call_value (by_name u) g s ∙ ap (plus (finite (s.costs g))) h

  over : (f : ℕ) (gs : List ℕ) → ((g : ℕ) → is_member g gs ≡ true → HasCall u f g) → ((g : ℕ) → is_member g gs ≡ true → Known g) → Over f gs
  over f [] sub k = record { amount = 0; value_is = refl; chain = []; is_chain = tt; reached = refl; bound = λ g hs m c. absurd (both_ways false refl m) }
  over f (g ∷ gs) sub k =
      let kg = k g (member_first g gs) in
      let rest = over f gs (λ h m. sub h (or_right (g == h) (is_member h gs) m)) (λ h m. k h (or_right (g == h) (is_member h gs) m)) in
      let here : s.costs g + kg.amount ≤ max (s.costs g + kg.amount) rest.amount = omega arith in
      let there : rest.amount ≤ max (s.costs g + kg.amount) rest.amount = omega arith in
      let value_is : greatest_value (by_name u) (g ∷ gs) s ≡ finite (max (s.costs g + kg.amount) rest.amount) =
      ap (λ (a : Extended). greater a (greatest_value (by_name u) gs s)) (one_call g kg.amount kg.value_is) ∙ ap (greater (finite (s.costs g + kg.amount))) rest.value_is in
      let bound : (h : ℕ) (hs : List ℕ) → is_member h (g ∷ gs) ≡ true → IsChainFrom u h hs → s.costs h + total_cost s.costs hs ≤ max (s.costs g + kg.amount) rest.amount = λ h hs m c. ⊎_elim
      (λ (e : g ≡ h). subst (λ (x : ℕ). (hs : List ℕ) → IsChainFrom u x hs → s.costs x + total_cost s.costs hs ≤ max (s.costs g + kg.amount) rest.amount) e (λ hs c. let b = kg.bound hs c in omega (arith, here, b)) hs c)
      (λ (n : is_member h gs ≡ true). let b = rest.bound h hs n c in omega (arith, there, b)) (first_cases h g gs m) in
      ⊎_elim
      (λ (lt : s.costs g + kg.amount < rest.amount). record { amount = max (s.costs g + kg.amount) rest.amount; value_is = value_is; chain = rest.chain; is_chain = rest.is_chain; reached = rest.reached ∙ omega (arith, lt); bound = bound })
      (λ (le : rest.amount ≤ s.costs g + kg.amount). record { amount = max (s.costs g + kg.amount) rest.amount; value_is = value_is; chain = g ∷ kg.chain; is_chain = (sub g (member_first g gs), kg.is_chain); reached = ap (λ (n : ℕ). s.costs g + n) kg.reached ∙ omega (arith, le); bound = bound })
      (cases_lt (s.costs g + kg.amount) rest.amount)

  known_one : (f : ℕ) → value (by_name u f) s ≡ value (open_body u f) s → ((g : ℕ) → is_member g (called_by u f) ≡ true → Known g) → Known f
  known_one f is k =
      let o = over f (called_by u f) (λ g m. is_call u f g m) k in
      record { amount = o.amount; value_is = is ∙ calls_value (by_name u) (called_by u f) s ∙ o.value_is; chain = o.chain; is_chain = o.is_chain; reached = o.reached; bound = any o }
    where
      any : (o : Over f (called_by u f)) (gs : List ℕ) → IsChainFrom u f gs → total_cost s.costs gs ≤ o.amount
      any o [] c = omega arith
      any o (g ∷ gs) c = o.bound g gs (is_listed u f g c.0 (calls_within u f g fits c.0)) c.1

  known_all :
      (earlier fs : List ℕ) → CalleesFirst u earlier fs → ((f : ℕ) → is_member f fs ≡ true → value (by_name u f) s ≡ value (open_body u f) s)
      → ((f : ℕ) → is_member f earlier ≡ true → Known f) → (f : ℕ) → is_member f fs ≡ true → Known f
  known_all earlier [] c is k f m = absurd (both_ways false refl m)
  known_all earlier (g ∷ fs) c is k f m =
      let kg = known_one g (is g (member_first g fs)) (λ h n. k h (c.1 h n)) in
      ⊎_elim (λ (e : g ≡ f). subst Known e kg)
      (λ (n : is_member f fs ≡ true). known_all (g ∷ earlier) fs c.2 (λ h l. is h (or_right (g == h) (is_member h fs) l))
      (λ h l. ⊎_elim (λ (e : g ≡ h). subst Known e kg) (λ (l : is_member h earlier ≡ true). k h l) (first_cases h g earlier l)) f n)
      (first_cases f g fs m)

  longest : (f : ℕ) → (k : Known f) → IsLongestPath u s.costs f (s.costs f + k.amount)
  longest f k = record {
    chain = k.chain;
    is_chain = k.is_chain;
    reached = ap (λ (n : ℕ). s.costs f + n) k.reached;
    bound = λ gs c. let b = k.bound gs c in omega (arith, b);
  }

pub open_names_are_longest_paths : OpenNamesAreLongestPaths
open_names_are_longest_paths u given proofs cost f function arguments e fits filled o is has =
    let numbers = number_at function (at_entry function arguments) in
    let s : State = state_of cost proofs.defines numbers in
    let m = filled.are_open.all_there f o in
    let k = known_all u fits s [] filled.opened filled.are_open.in_order (λ g n. open_value u fits given proofs filled cost numbers g n) (λ g n. absurd (both_ways false refl n)) f m in
    let c : s.costs ≡ cost = costs_of_state cost proofs.defines numbers in
    let need : e.spec.pre ≡ by_name u f = (filled.of_open f e m has).0 in
    record {
      length = cost f + k.amount;
      bound = ap (λ (a : AssertionTree). plus (finite (cost f)) (value a s)) need ∙ ap (plus (finite (cost f))) k.value_is;
      longest = subst (λ (costs : ℕ → ℕ). IsLongestPath u costs f (costs f + k.amount)) c (longest u fits s f k);
    }
