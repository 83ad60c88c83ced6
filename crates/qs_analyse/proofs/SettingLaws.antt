-- What derivations of open functions rest on stands in what is filled.
use Rattle.std.proofs.Common.{◌≡◌, ℕ, zero, suc, ◌<◌, ◌==◌, ◌&&◌, Bool, true, false, cond, List, [], ◌∷◌, ◌++◌, length, map, filter, ⊎_elim, refl, sym, ap, ◌∙◌, subst, arith}
use Rattle.std.specs.Prelude.{if◌then◌else◌, option_map, Option, Some, None, Ok}
use Rattle.std.specs.List.{slice_get, find}
use Rattle.std.proofs.lemmas.Bool.{both_ways, false_from_ne_true, or_left, or_right, and_from}
use Rattle.std.proofs.lemmas.List.{append-nil}
use Rattle.std.proofs.lemmas.List.Folds.{list_any-append}
use Rattle.qs_assert.specs.declared.define.Define.{Define}
use Rattle.qs_assert.specs.Bounds.{same_name}
use Rattle.qs_assert.specs.Order.{names_known, all_names_known, is_among, order_fault_behind, IsInOrder}
use Rattle.qs_assert.specs.Trees.{AssertionTree, assertions_of}
use Rattle.qs_core.specs.CallGraph.{callees_of, called_by, HasCall, no_call, is_member}
use Rattle.qs_core.specs.Fits.{unit_fits}
use Rattle.qs_core.specs.Trees.{CoreUnitTree}
use Rattle.qs_core.specs.FunctionNames.{function_name}
use Rattle.qs_entail.specs.Faults.{definition}
use Rattle.qs_triples.specs.Derivations.{EntryTree, ProofsTree, SpecTree, is_entry_of, entry_of, spec_of}
use Rattle.qs_triples.specs.Entries.{has_entry, IsDerived}
use Rattle.qs_triples.specs.Filled.{for_call, for_calls, open_definition, CalleesFirst, Filled}
use Rattle.qs_callgraph.proofs.MemberLaws.{member_first, first_cases}
use Rattle.qs_callgraph.proofs.UnitCalls.{call_within, calls_within, is_call, is_listed}
use Rattle.qs_analyse.specs.Fillable.{open_entry}
use Rattle.qs_analyse.specs.Laws.{DerivesOpen}
use Rattle.qs_analyse.proofs.NameLaws.{same_self, one_name}
use Rattle.qs_analyse.proofs.OpenNames.{by_name, open_body}
use Rattle.qs_analyse.proofs.ValidLaws.{open_calls_open}
use Rattle.qs_analyse.proofs.WrittenLaws.{Setting, derived}

-- ---- lists

pub there_at : {A : Type 0} (xs : List A) (i : ℕ) → i < length xs → (x : A) × (slice_get xs i ≡ Some x)
there_at [] i b = absurd (omega (arith, b))
there_at (x ∷ xs) zero b = (x, refl)
there_at (x ∷ xs) (suc i) b = there_at xs i (omega (arith, b))

pub one_there : (p : EntryTree → Bool) (es : List EntryTree) → length (filter p es) ≡ 1 → (e : EntryTree) × (find p es ≡ Some e)
one_there p [] h = absurd (omega (arith, h))
one_there p (e ∷ es) h = by (p e) h (one_there p es)
  where
    by : (b : Bool) → length (cond b (e ∷ filter p es) (filter p es)) ≡ 1 → (length (filter p es) ≡ 1 → (d : EntryTree) × (find p es ≡ Some d)) → (d : EntryTree) × (cond b (Some e) (find p es) ≡ Some d)
    by true h next = (e, refl)
    by false h next = next h

abbrev some_spec : AssertionTree → AssertionTree → Option SpecTree
some_spec pre post = Some (record { pre = pre; post = post })

-- ---- definitions in order

module _ (u : CoreUnitTree) where
  parts_known :
      (gs : List ℕ) (known : List ℕ → Bool) → ((g : ℕ) → is_member g gs ≡ true → known (function_name u g) ≡ true)
      → all_names_known (assertions_of (map (for_call (by_name u)) gs)) known ≡ true
  parts_known [] known h = refl
  parts_known (g ∷ gs) known h =
      and_from (known (function_name u g) && true) (all_names_known (assertions_of (map (for_call (by_name u)) gs)) known)
      (and_from (known (function_name u g)) true (h g (member_first g gs)) refl)
      (parts_known gs known (λ x m. h x (or_right (g == x) (is_member x gs) m)))

  calls_known :
      (gs : List ℕ) (known : List ℕ → Bool) → ((g : ℕ) → is_member g gs ≡ true → known (function_name u g) ≡ true)
      → names_known (for_calls (by_name u) gs) known ≡ true
  calls_known [] known h = refl
  calls_known (g ∷ []) known h = and_from (known (function_name u g)) true (h g (member_first g [])) refl
  calls_known (g ∷ i ∷ gs) known h = parts_known (g ∷ i ∷ gs) known h

  pub in_order :
      (earlier fs : List ℕ) (before : List Define) → CalleesFirst u earlier fs
      → ((g : ℕ) → is_member g earlier ≡ true → is_among before (function_name u g) ≡ true) → order_fault_behind (map (open_definition u) fs) before ≡ None
  in_order earlier [] before c h = refl
  in_order earlier (f ∷ fs) before c h =
      ap (λ (b : Bool). if b then order_fault_behind (map (open_definition u) fs) (before ++ open_definition u f ∷ []) else Some (length before))
      (calls_known (called_by u f) (is_among before) (λ g m. h g (c.1 g m)))
      ∙ in_order (f ∷ earlier) fs (before ++ open_definition u f ∷ []) c.2 (λ g m.
      list_any-append (λ (d : Define). same_name (function_name u g) d.name) before (open_definition u f ∷ []) ∙ ⊎_elim
      (λ (e : f ≡ g). or_right (is_among before (function_name u g)) (is_among (open_definition u f ∷ []) (function_name u g))
      (or_left (same_name (function_name u g) (function_name u f)) false (ap (λ (x : ℕ). same_name (function_name u g) (function_name u x)) e ∙ same_self (function_name u g))))
      (λ (n : is_member g earlier ≡ true). or_left (is_among before (function_name u g)) (is_among (open_definition u f ∷ []) (function_name u g)) (h g n))
      (first_cases g f earlier m))

  -- no function in an order calls itself
  never_itself : (earlier fs : List ℕ) (f : ℕ) → CalleesFirst u earlier fs → is_member f fs ≡ true → is_member f (called_by u f) ≡ true → ⊥
  never_itself earlier [] f c m k = both_ways false refl m
  never_itself earlier (x ∷ fs) f c m k =
      ⊎_elim
      (λ (e : x ≡ f). both_ways (is_member f earlier) (subst (λ (y : ℕ). is_member y earlier ≡ false) e c.0) (c.1 f (subst (λ (y : ℕ). is_member f (called_by u y) ≡ true) (sym e) k)))
      (λ (n : is_member f fs ≡ true). never_itself (x ∷ earlier) fs f c.2 n k) (first_cases f x fs m)

  module _ (fits : unit_fits u ≡ true) where
    -- the first definition of an open function's name is its own
    own_definition :
        (fs : List ℕ) (given : List Define) (f : ℕ) → ((g : ℕ) → is_member g fs ≡ true → g < length u.functions) → f < length u.functions → is_member f fs ≡ true
        → definition (map (open_definition u) fs ++ given) (function_name u f) ≡ Ok (open_body u f)
    own_definition [] given f within b m = absurd (both_ways false refl m)
    own_definition (x ∷ fs) given f within b m =
        by (same_name (function_name u f) (function_name u x)) refl
        (λ k. own_definition fs given f (λ g k. within g (or_right (x == g) (is_member g fs) k)) b k)
      where
        by : (t : Bool) → same_name (function_name u f) (function_name u x) ≡ t
            → (is_member f fs ≡ true → definition (map (open_definition u) fs ++ given) (function_name u f) ≡ Ok (open_body u f))
            → definition (map (open_definition u) (x ∷ fs) ++ given) (function_name u f) ≡ Ok (open_body u f)
        by true same next =
            ap (λ (t : Bool). if t then Ok (open_body u x) else definition (map (open_definition u) fs ++ given) (function_name u f)) same
            ∙ ap (λ (y : ℕ). Ok (open_body u y)) (sym (one_name u f x fits b (within x (member_first x fs)) same))
        by false same next =
            ap (λ (t : Bool). if t then Ok (open_body u x) else definition (map (open_definition u) fs ++ given) (function_name u f)) same
            ∙ next (⊎_elim
            (λ (e : x ≡ f). absurd (both_ways (same_name (function_name u f) (function_name u x)) same (ap (λ (y : ℕ). same_name (function_name u f) (function_name u y)) e ∙ same_self (function_name u f))))
            (λ (k : is_member f fs ≡ true). k) (first_cases f x fs m))

    module _ (given proofs : ProofsTree) (filled : Filled u given proofs) where
      spec_there : (g : ℕ) → is_member g filled.opened ≡ true → spec_of proofs g ≡ Some (record { pre = by_name u g; post = by_name u g })
      spec_there g m =
          let o = filled.are_open.open_ones g m in
          let e = one_there (is_entry_of g) proofs.functions (filled.one g o.known (o.none g (no_call g))) in
          let b = filled.of_open g e.0 m e.1 in
          ap (option_map (λ (e : EntryTree). e.spec)) e.1
          ∙ ap (λ (pre : AssertionTree). some_spec pre e.0.spec.post) b.0
          ∙ ap (λ (post : AssertionTree). some_spec (by_name u g) post) b.1

      setting : (f : ℕ) → is_member f filled.opened ≡ true → Setting u proofs f
      setting f m =
          let within : (g : ℕ) → is_member g filled.opened ≡ true → g < length u.functions = λ g k. (filled.are_open.open_ones g k).known in
          record {
            defined = ap (λ (ds : List Define). definition ds (function_name u f)) filled.defines ∙ own_definition filled.opened given.defines f within (within f m) m;
            named_apart = λ g k.
                let differ : same_name (function_name u f) (function_name u g) ≡ false = false_from_ne_true (same_name (function_name u f) (function_name u g)) (λ same.
                never_itself [] filled.opened f filled.are_open.in_order m
                (subst (λ (x : ℕ). is_member x (called_by u f) ≡ true) (sym (one_name u f g fits (within f m) (call_within u f g k) same)) k)) in
                ap (λ (t : Bool). if t then open_body u f else by_name u g) differ;
            known = λ g k. there_at u.functions g (call_within u f g k);
            specs = λ g k. spec_there g (filled.are_open.all_there g (open_calls_open u (has_entry given) f g fits (filled.are_open.open_ones f m) (is_call u f g k)));
          }

      pub derives : ((f : ℕ) (e : EntryTree) → is_member f filled.opened ≡ true → entry_of proofs f ≡ Some e → open_entry u f ≡ e) → DerivesOpen u given proofs
      derives written = record {
        in_order = λ none.
            subst IsInOrder (sym (filled.defines ∙ ap (λ (ds : List Define). map (open_definition u) filled.opened ++ ds) none ∙ append-nil (map (open_definition u) filled.opened)))
            (in_order [] filled.opened [] filled.are_open.in_order (λ g m. absurd (both_ways false refl m)));
        derived = λ f e order o is.
            let m = filled.are_open.all_there f o in
            let function = there_at u.functions f o.known in
            subst (IsDerived u proofs) (written f e m is)
            (derived u proofs f function.0 (setting f m) function.1 order (λ g k.
            let calls : HasCall u f g = ap (λ o. is_member g (callees_of o)) function.1 ∙ k in
            is_listed u f g calls (calls_within u f g fits calls)));
      }
