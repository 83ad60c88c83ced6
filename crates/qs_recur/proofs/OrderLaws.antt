-- Function by function along an order in which callees stand first, each function gets the entry that it has in the end.
use Rattle.std.proofs.Common.{◌≡◌, ◌⊎◌, inl, inr, ◌<◌, ◌==◌, ℕ, zero, suc, refl, sym, ap, ◌∙◌, subst, arith, Bool, true, false, List, [], ◌∷◌, ◌++◌, length, Some, None}
use Rattle.std.specs.Prelude.{if◌then◌else◌, Option, option_map}
use Rattle.std.specs.List.{slice_get, find}
use Rattle.std.specs.Option.{option_or}
use Rattle.std.proofs.lemmas.Bool.{both_ways, eq-eqb, eqb-true, or_parts, or_right}
use Rattle.qs_memory.specs.Partial.{◌>>=◌}
use Rattle.qs_assert.specs.Trees.{AssertionTree}
use Rattle.qs_core.specs.CallGraph.{calls, is_member}
use Rattle.qs_core.specs.Fits.{unit_fits}
use Rattle.qs_core.specs.Trees.{CoreFunctionTree, CoreUnitTree}
use Rattle.qs_callgraph.specs.Orders.{CalleesFirst}
use Rattle.qs_callgraph.proofs.MemberLaws.{first_cases, member_first}
use Rattle.qs_triples.specs.Derivations.{EntryTree, is_entry_of, entry_of}
use Rattle.qs_recur.specs.Entries.{entry_in, entry_for, proofs_of, with_entry, entries_along}
use Rattle.qs_recur.specs.Needs.{Preconditions, helpers, Counting, counting, passing}
use Rattle.qs_recur.specs.Passing.{passing_entry}
use Rattle.qs_recur.specs.Recursions.{pres_of}
use Rattle.qs_recur.specs.Written.{counting_entry}
use Rattle.qs_recur.proofs.DerivedLaws.{AreWritten}
use Rattle.qs_recur.proofs.LocalLaws.{entry_same}
use Rattle.qs_recur.proofs.TestLaws.{step_before, some_same}

-- ---- one entry more

find_behind : (p : EntryTree → Bool) (es : List EntryTree) (e : EntryTree) → find p (es ++ e ∷ []) ≡ option_or (find p es) (if p e then Some e else None)
find_behind p [] e = refl
find_behind p (d ∷ es) e = by (p d) (find_behind p es e)
  where
    by : (b : Bool) → find p (es ++ e ∷ []) ≡ option_or (find p es) (if p e then Some e else None) → (if b then Some d else find p (es ++ e ∷ [])) ≡ option_or (if b then Some d else find p es) (if p e then Some e else None)
    by true later = refl
    by false later = later

or_none : (o : Option EntryTree) → option_or o None ≡ o
or_none None = refl
or_none (Some e) = refl

-- the entry that a function gets is its own
module _ (u : CoreUnitTree) (pres : Preconditions) (f : ℕ) where
  counted_own : (function : CoreFunctionTree) (o : Option Counting) (e : EntryTree) → option_map (λ c. counting_entry f c function) o ≡ Some e → e.function ≡ f
  counted_own function None e h = cc
  counted_own function (Some c) e h = sym (ap (λ (e : EntryTree). e.function) (some_same (counting_entry f c function) e h))

  passed_own : (function : CoreFunctionTree) (o : Option (List AssertionTree)) (e : EntryTree) → option_map (λ needs. passing_entry u pres function needs f) o ≡ Some e → e.function ≡ f
  passed_own function None e h = cc
  passed_own function (Some needs) e h = sym (ap (λ (e : EntryTree). e.function) (some_same (passing_entry u pres function needs f) e h))

  pub its_own : (e : EntryTree) → entry_for u pres f ≡ Some e → e.function ≡ f
  its_own e h =
      let p = step_before (slice_get u.functions f) (entry_in u pres f) e h in
      by p.0 (calls u f f) p.2
    where
      by :
          (function : CoreFunctionTree) (b : Bool)
          → (if b then option_map (λ c. counting_entry f c function) (counting u pres f function) else option_map (λ needs. passing_entry u pres function needs f) (passing u pres function)) ≡ Some e → e.function ≡ f
      by function true h = counted_own function (counting u pres f function) e h
      by function false h = passed_own function (passing u pres function) e h

module _ (h : ℕ) (es : List EntryTree) where
  pub elsewhere : (o : Option EntryTree) → ((e : EntryTree) → o ≡ Some e → e.function ≡ h) → (f : ℕ) → (h == f) ≡ false → entry_of (proofs_of (with_entry o es)) f ≡ entry_of (proofs_of es) f
  elsewhere None own f differs = refl
  elsewhere (Some e) own f differs =
      find_behind (is_entry_of f) es e ∙ ap (λ (b : Bool). option_or (find (is_entry_of f) es) (if b then Some e else None)) (ap (λ (g : ℕ). g == f) (own e refl) ∙ differs) ∙ or_none (find (is_entry_of f) es)

  pub at_itself : (o : Option EntryTree) → ((e : EntryTree) → o ≡ Some e → e.function ≡ h) → entry_of (proofs_of es) h ≡ None → entry_of (proofs_of (with_entry o es)) h ≡ o
  at_itself None own none = none
  at_itself (Some e) own none =
      find_behind (is_entry_of h) es e ∙ ap (λ (o : Option EntryTree). option_or o (if e.function == h then Some e else None)) none
      ∙ ap (λ (b : Bool). if b then Some e else None) (eq-eqb e.function h (own e refl))

-- ---- all functions so far

module _ (u : CoreUnitTree) (fits : unit_fits u ≡ true) where
  abbrev entry_by : List EntryTree → ℕ → Option EntryTree
  entry_by es f = entry_for u (pres_of (proofs_of es)) f

  pub record AreDone (earlier : List ℕ) (es : List EntryTree) : Type 0 where
    pub have : (f : ℕ) → is_member f earlier ≡ true → entry_of (proofs_of es) f ≡ entry_by es f
    pub none : (f : ℕ) → is_member f earlier ≡ false → entry_of (proofs_of es) f ≡ None
    pub within : (f g : ℕ) → is_member f earlier ≡ true → is_member g (helpers u f) ≡ true → is_member g earlier ≡ true

  pub none_done : AreDone [] []
  none_done = record { have = λ f m. absurd (both_ways false refl m); none = λ f m. refl; within = λ f g m listed. absurd (both_ways false refl m) }

  module _ (h : ℕ) (earlier : List ℕ) (es : List EntryTree) (done : AreDone earlier es) (new : is_member h earlier ≡ false) (listed : (g : ℕ) → is_member g (helpers u h) ≡ true → is_member g earlier ≡ true) where
    abbrev given : Option EntryTree
    given = entry_by es h

    abbrev more : List EntryTree
    more = with_entry given es

    own : (e : EntryTree) → given ≡ Some e → e.function ≡ h
    own e i = its_own u (pres_of (proofs_of es)) h e i

    not_this : (g : ℕ) → is_member g earlier ≡ true → (h == g) ≡ false
    not_this g m = by (h == g) refl
      where
        by : (b : Bool) → (h == g) ≡ b → (h == g) ≡ false
        by true e = absurd (both_ways (is_member h earlier) new (ap (λ (k : ℕ). is_member k earlier) (eqb-true h g e) ∙ m))
        by false e = e

    pres_same : (g : ℕ) → is_member g earlier ≡ true → pres_of (proofs_of es) g ≡ pres_of (proofs_of more) g
    pres_same g m = ap (λ (o : Option EntryTree). option_map (λ s. s.pre) (option_map (λ e. e.spec) o)) (sym (elsewhere h es given own g (not_this g m)))

    same_by : (f : ℕ) → ((g : ℕ) → is_member g (helpers u f) ≡ true → is_member g earlier ≡ true) → entry_by es f ≡ entry_by more f
    same_by f known = entry_same u fits (pres_of (proofs_of es)) (pres_of (proofs_of more)) f (λ g m. pres_same g (known g m))

    pub one_more : AreDone (h ∷ earlier) more
    one_more = record { have = have; none = none; within = within }
      where
        have : (f : ℕ) → is_member f (h ∷ earlier) ≡ true → entry_of (proofs_of more) f ≡ entry_by more f
        have f m = by (first_cases f h earlier m)
          where
            by : (h ≡ f) ⊎ (is_member f earlier ≡ true) → entry_of (proofs_of more) f ≡ entry_by more f
            by (inl e) = subst (λ (f : ℕ). entry_of (proofs_of more) f ≡ entry_by more f) e (at_itself h es given own (done.none h new) ∙ same_by h listed)
            by (inr m) = elsewhere h es given own f (not_this f m) ∙ done.have f m ∙ same_by f (λ g l. done.within f g m l)

        none : (f : ℕ) → is_member f (h ∷ earlier) ≡ false → entry_of (proofs_of more) f ≡ None
        none f n = let p = or_parts (h == f) (is_member f earlier) n in elsewhere h es given own f p.0 ∙ done.none f p.1

        within : (f g : ℕ) → is_member f (h ∷ earlier) ≡ true → is_member g (helpers u f) ≡ true → is_member g (h ∷ earlier) ≡ true
        within f g m l = or_right (h == g) (is_member g earlier) (by (first_cases f h earlier m))
          where
            by : (h ≡ f) ⊎ (is_member f earlier ≡ true) → is_member g earlier ≡ true
            by (inl e) = listed g (subst (λ (k : ℕ). is_member g (helpers u k) ≡ true) (sym e) l)
            by (inr m) = done.within f g m l

  -- ---- along the order

  pub record HasAll (earlier fs : List ℕ) (es : List EntryTree) : Type 0 where
    pub all : List ℕ
    pub done : AreDone all es
    pub first : (f : ℕ) → is_member f earlier ≡ true → is_member f all ≡ true
    pub last : (f : ℕ) → is_member f fs ≡ true → is_member f all ≡ true

  goes_along : (earlier fs : List ℕ) (es : List EntryTree) → CalleesFirst (helpers u) (λ g. false) earlier fs → AreDone earlier es → HasAll earlier fs (entries_along u fs es)
  goes_along earlier [] es order done = record { all = earlier; done = done; first = λ f m. m; last = λ f m. absurd (both_ways false refl m) }
  goes_along earlier (h ∷ fs) es order done =
      let listed = λ (g : ℕ) (l : is_member g (helpers u h) ≡ true). order.1 g l refl in
      let w = goes_along (h ∷ earlier) fs (with_entry (entry_by es h) es) order.2 (one_more h earlier es done order.0 listed) in
      record { all = w.all; done = w.done; first = λ f m. w.first f (or_right (h == f) (is_member f earlier) m); last = λ f m. by f w.all w.first w.last (first_cases f h fs m) }
    where
      by :
          (f : ℕ) (all : List ℕ) → ((f : ℕ) → is_member f (h ∷ earlier) ≡ true → is_member f all ≡ true) → ((f : ℕ) → is_member f fs ≡ true → is_member f all ≡ true)
          → (h ≡ f) ⊎ (is_member f fs ≡ true) → is_member f all ≡ true
      by f all first last (inl e) = first f (subst (λ (k : ℕ). is_member k (h ∷ earlier) ≡ true) e (member_first h earlier))
      by f all first last (inr m) = last f m

  below_length : {A : Type 0} (xs : List A) (i : ℕ) (x : A) → slice_get xs i ≡ Some x → i < length xs
  below_length [] i x h = cc
  below_length (y ∷ xs) zero x h = zero_below (length xs)
    where
      zero_below : (n : ℕ) → 0 < suc n
      zero_below n = omega arith
  below_length (y ∷ xs) (suc i) x h = let l = below_length xs i x h in omega (arith, l)

  -- each function has the entry that it gets by the others' preconditions
  pub entries_written : (fs : List ℕ) → CalleesFirst (helpers u) (λ g. false) [] fs → ((f : ℕ) → f < length u.functions → is_member f fs ≡ true) → AreWritten u (proofs_of (entries_along u fs []))
  entries_written fs order every f =
      let w = goes_along [] fs [] order none_done in
      by w.all w.done w.last (is_member f w.all) refl
    where
      by :
          (all : List ℕ) → AreDone all (entries_along u fs []) → ((f : ℕ) → is_member f fs ≡ true → is_member f all ≡ true) → (b : Bool) → is_member f all ≡ b
          → entry_of (proofs_of (entries_along u fs [])) f ≡ entry_by (entries_along u fs []) f
      by all done last true m = done.have f m
      by all done last false n = done.none f n ∙ sym (unknown (slice_get u.functions f) refl)
        where
          unknown : (o : Option CoreFunctionTree) → slice_get u.functions f ≡ o → (o >>= entry_in u (pres_of (proofs_of (entries_along u fs []))) f) ≡ None
          unknown None e = refl
          unknown (Some function) e = absurd (both_ways (is_member f all) n (last f (every f (below_length u.functions f function e))))
