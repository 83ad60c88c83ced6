-- The names of open functions have the values of what their functions' calls need.
use Rattle.std.proofs.Common.{◌≡◌, ℕ, ◌<◌, ◌==◌, Bool, true, false, List, [], ◌∷◌, ◌++◌, length, map, ⊎_elim, inl, inr, refl, sym, ap, ◌∙◌, subst}
use Rattle.std.specs.Prelude.{◌⊎◌, ℤ, if◌then◌else◌, Some, None}
use Rattle.std.proofs.lemmas.Bool.{both_ways, false_from_ne_true, or_right}
use Rattle.qs_entail.proofs.Definitions.{defined_stays, kept, undefined_takes}
use Rattle.qs_events.specs.Weights.{Costs}
use Rattle.qs_assert.specs.declared.define.Define.{Define}
use Rattle.qs_assert.specs.declared.variable.Var.{Var}
use Rattle.qs_assert.specs.Bounds.{Setting, same_name, with_definition, with_definitions}
use Rattle.qs_assert.specs.Trees.{AssertionTree, named}
use Rattle.qs_assert.specs.Values.{State, or_infinite, value}
use Rattle.qs_core.specs.CallGraph.{called_by, is_member}
use Rattle.qs_core.specs.Fits.{unit_fits}
use Rattle.qs_core.specs.Trees.{CoreUnitTree}
use Rattle.qs_core.specs.FunctionNames.{function_name}
use Rattle.qs_triples.specs.Filled.{for_calls, open_definition, CalleesFirst}
use Rattle.qs_triples.specs.Valuations.{state_of}
use Rattle.qs_callgraph.proofs.MemberLaws.{member_first, first_cases}
use Rattle.qs_analyse.proofs.NameLaws.{same_self, one_name}
use Rattle.qs_analyse.proofs.NeedLaws.{same_calls}

-- ---- a definition more

takes : (d : Define) (g : Setting) (n : List ℕ) (b : Bool) → g.state.names n ≡ None → same_name n d.name ≡ b → (with_definition d g).state.names n ≡ (if b then Some (value d.body g.state) else None)
takes d g n b h e = undefined_takes d g n h ∙ ap (λ b. if b then Some (value d.body g.state) else None) e

costs_stay : (ds : List Define) (g : Setting) → (with_definitions ds g).state.costs ≡ g.state.costs
costs_stay [] g = refl
costs_stay (d ∷ ds) g = costs_stay ds (with_definition d g)

joined : (ds es : List Define) (g : Setting) → with_definitions (ds ++ es) g ≡ with_definitions es (with_definitions ds g)
joined [] es g = refl
joined (d ∷ ds) es g = joined ds es (with_definition d g)

module _ (u : CoreUnitTree) where
  -- what a function needs by its name
  abbrev pub by_name : ℕ → AssertionTree
  by_name g = named (function_name u g)

  abbrev pub open_body : ℕ → AssertionTree
  open_body f = for_calls by_name (called_by u f)

  -- in this state the names of these functions have the values of their definitions
  pub record AreValued (s : State) (fs : List ℕ) : Type 0 where
    pub valued : (f : ℕ) → is_member f fs ≡ true → s.names (function_name u f) ≡ Some (value (open_body f) s)
    pub called : (f g : ℕ) → is_member f fs ≡ true → is_member g (called_by u f) ≡ true → is_member g fs ≡ true

  -- and no other function's name has one
  record Valued (s : State) (fs : List ℕ) : Type 0 where
    are : AreValued s fs
    within : (f : ℕ) → is_member f fs ≡ true → f < length u.functions
    others : (f : ℕ) → f < length u.functions → is_member f fs ≡ false → s.names (function_name u f) ≡ None

  -- where the names of these stay, so do the values of their definitions
  kept_values : (s t : State) (fs : List ℕ) → s.costs ≡ t.costs → AreValued s fs → ((f : ℕ) → is_member f fs ≡ true → t.names (function_name u f) ≡ s.names (function_name u f)) → AreValued t fs
  kept_values s t fs c are same = record {
    valued = λ f m. same f m ∙ are.valued f m ∙ ap Some
        (same_calls by_name (called_by u f) s t c (λ g k. sym (ap or_infinite (same g (are.called f g m k)))));
    called = are.called;
  }

  module _ (fits : unit_fits u ≡ true) where
    one_more :
        (g : Setting) (fs : List ℕ) (f : ℕ) → Valued g.state fs → f < length u.functions → is_member f fs ≡ false
        → ((h : ℕ) → is_member h (called_by u f) ≡ true → is_member h fs ≡ true) → Valued (with_definition (open_definition u f) g).state (f ∷ fs)
    one_more g fs f v b n below =
        let t : State = (with_definition (open_definition u f) g).state in
        let same : (h : ℕ) → is_member h fs ≡ true → t.names (function_name u h) ≡ g.state.names (function_name u h) =
        λ h m. defined_stays (open_definition u f) g (function_name u h) (value (open_body h) g.state) (v.are.valued h m) ∙ sym (v.are.valued h m) in
        let earlier = kept_values g.state t fs refl v.are same in
        let here : t.names (function_name u f) ≡ Some (value (open_body f) t) =
        takes (open_definition u f) g (function_name u f) true (v.others f b n) (same_self (function_name u f))
        ∙ ap Some (same_calls by_name (called_by u f) g.state t refl (λ h m. sym (ap or_infinite (same h (below h m))))) in
        record {
          are = record {
            valued = λ h m. ⊎_elim (λ (e : f ≡ h). subst (λ (x : ℕ). t.names (function_name u x) ≡ Some (value (open_body x) t)) e here)
                (λ (k : is_member h fs ≡ true). earlier.valued h k) (first_cases h f fs m);
            called = λ h i m k. or_right (f == i) (is_member i fs) (⊎_elim
                (λ (e : f ≡ h). below i (subst (λ (x : ℕ). is_member i (called_by u x) ≡ true) (sym e) k))
                (λ (l : is_member h fs ≡ true). v.are.called h i l k) (first_cases h f fs m));
          };
          within = λ h m. ⊎_elim (λ (e : f ≡ h). subst (λ (x : ℕ). x < length u.functions) e b) (λ (k : is_member h fs ≡ true). v.within h k) (first_cases h f fs m);
          others = λ h c m.
              takes (open_definition u f) g (function_name u h) false
              (v.others h c (false_from_ne_true (is_member h fs) (λ k. both_ways (is_member h (f ∷ fs)) m (or_right (f == h) (is_member h fs) k))))
              (false_from_ne_true (same_name (function_name u h) (function_name u f)) (λ k.
              both_ways (is_member h (f ∷ fs)) m (subst (λ (x : ℕ). is_member x (f ∷ fs) ≡ true) (sym (one_name u h f fits c b k)) (member_first f fs))));
        }

    -- those that were there, and these
    abbrev behind : List ℕ → List ℕ → List ℕ
    behind earlier [] = earlier
    behind earlier (f ∷ fs) = behind (f ∷ earlier) fs

    all_more :
        (g : Setting) (earlier fs : List ℕ) → CalleesFirst u earlier fs → Valued g.state earlier
        → ((f : ℕ) → is_member f fs ≡ true → f < length u.functions) → AreValued (with_definitions (map (open_definition u) fs) g).state (behind earlier fs)
    all_more g earlier [] c v within = v.are
    all_more g earlier (f ∷ fs) c v within =
        all_more (with_definition (open_definition u f) g) (f ∷ earlier) fs c.2
        (one_more g earlier f v (within f (member_first f fs)) c.0 c.1) (λ h m. within h (or_right (f == h) (is_member h fs) m))

    there : (earlier fs : List ℕ) (f : ℕ) → (is_member f fs ≡ true) ⊎ (is_member f earlier ≡ true) → is_member f (behind earlier fs) ≡ true
    there earlier [] f h = ⊎_elim (λ (k : is_member f [] ≡ true). absurd (both_ways false refl k)) (λ (k : is_member f earlier ≡ true). k) h
    there earlier (x ∷ fs) f h =
        there (x ∷ earlier) fs f (⊎_elim
        (λ (k : is_member f (x ∷ fs) ≡ true). ⊎_elim
        (λ (e : x ≡ f). inr (subst (λ (y : ℕ). is_member y (x ∷ earlier) ≡ true) e (member_first x earlier)))
        (λ (k : is_member f fs ≡ true). inl k) (first_cases f x fs k))
        (λ (k : is_member f earlier ≡ true). inr (or_right (x == f) (is_member f earlier) k)) h)

    -- the names of the open functions, where their definitions come first
    pub names_are :
        (fs : List ℕ) (given : List Define) (cost : Costs) (numbers : Var → ℤ) → CalleesFirst u [] fs
        → ((f : ℕ) → is_member f fs ≡ true → f < length u.functions) → (f : ℕ) → is_member f fs ≡ true
        → (state_of cost (map (open_definition u) fs ++ given) numbers).names (function_name u f)
        ≡ Some (value (open_body f) (state_of cost (map (open_definition u) fs ++ given) numbers))
    names_are fs given cost numbers first within f m =
        let start : Setting = record { state = record { at = numbers; costs = cost; names = λ n. None }; wides = λ n. false } in
        let empty : Valued start.state [] = record {
          are = record { valued = λ f m. absurd (both_ways false refl m); called = λ f g m k. absurd (both_ways false refl m) };
          within = λ f m. absurd (both_ways false refl m);
          others = λ f b m. refl;
        } in
        let middle : Setting = with_definitions (map (open_definition u) fs) start in
        let open_ones = all_more start [] fs first empty within in
        let final = with_definitions given middle in
        let all = kept_values middle.state final.state (behind [] fs) (sym (costs_stay given middle)) open_ones
        (λ h k. kept given middle (function_name u h) (value (open_body h) middle.state) (open_ones.valued h k) ∙ sym (open_ones.valued h k)) in
        subst (λ (g : Setting). g.state.names (function_name u f) ≡ Some (value (open_body f) g.state)) (sym (joined (map (open_definition u) fs) given start))
        (all.valued f (there [] fs f (inl m)))

pub costs_of_state : (cost : Costs) (ds : List Define) (numbers : Var → ℤ) → (state_of cost ds numbers).costs ≡ cost
costs_of_state cost ds numbers = costs_stay ds (record { state = record { at = numbers; costs = cost; names = λ n. None }; wides = λ n. false })
