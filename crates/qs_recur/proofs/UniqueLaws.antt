-- Needs are the same wherever they are: so a function that calls itself and gets no entry is a cycle without a derivation.
use Rattle.std.proofs.Common.{◌≡◌, ◌⊎◌, inl, inr, ◌==◌, ℕ, refl, sym, ap, ◌∙◌, subst, true, false, List, [], ◌∷◌, None}
use Rattle.std.specs.Prelude.{is_some, Option, option_map}
use Rattle.std.proofs.lemmas.Bool.{both_ways, or_right}
use Rattle.qs_assert.specs.Trees.{AssertionTree}
use Rattle.qs_core.specs.CallGraph.{calls, is_member}
use Rattle.qs_core.specs.Fits.{unit_fits}
use Rattle.qs_core.specs.Trees.{CoreUnitTree}
use Rattle.qs_callgraph.specs.Orders.{CalleesFirst}
use Rattle.qs_callgraph.proofs.MemberLaws.{first_cases, member_first}
use Rattle.qs_triples.specs.Derivations.{SpecTree, EntryTree}
use Rattle.qs_recur.specs.Entries.{entry_for, proofs_of}
use Rattle.qs_recur.specs.Needs.{Preconditions, AreNeeds, helpers, need}
use Rattle.qs_recur.specs.Recursions.{pres_of, CountsAlone, IsUncounted}
use Rattle.qs_recur.proofs.DerivedLaws.{spec_for, spec_is, pre_back}
use Rattle.qs_recur.proofs.LocalLaws.{entry_same}
use Rattle.qs_recur.proofs.OrderLaws.{AreDone}

-- the precondition of an entry
abbrev pre_for : Option EntryTree → Option AssertionTree
pre_for o = option_map (λ (s : SpecTree). s.pre) (spec_for o)

module _ (u : CoreUnitTree) (fits : unit_fits u ≡ true) where
  pub need_is : (pres : Preconditions) (f : ℕ) → pre_for (entry_for u pres f) ≡ need u pres f
  need_is pres f = ap (option_map (λ (s : SpecTree). s.pre)) (spec_is u pres f) ∙ pre_back (need u pres f)

  -- by those of the functions that it calls
  need_same : (p q : Preconditions) (f : ℕ) → ((g : ℕ) → is_member g (helpers u f) ≡ true → p g ≡ q g) → need u p f ≡ need u q f
  need_same p q f agree = sym (need_is p f) ∙ (ap pre_for (entry_same u fits p q f agree) ∙ need_is q f)

  abbrev pub AreNeedsOf : Preconditions → List ℕ → Type 0
  AreNeedsOf pres fs = (f : ℕ) → is_member f fs ≡ true → pres f ≡ need u pres f

  pub needs_agree :
      (p q : Preconditions) (earlier fs : List ℕ) → CalleesFirst (helpers u) (λ g. false) earlier fs → AreNeedsOf p fs → AreNeedsOf q fs → ((g : ℕ) → is_member g earlier ≡ true → p g ≡ q g)
      → (f : ℕ) → is_member f fs ≡ true → p f ≡ q f
  needs_agree p q earlier [] order np nq agree f m = absurd (both_ways false refl m)
  needs_agree p q earlier (h ∷ fs) order np nq agree f m =
      by (first_cases f h fs m)
      (λ (known : (g : ℕ) → is_member g (h ∷ earlier) ≡ true → p g ≡ q g) (n : is_member f fs ≡ true).
      needs_agree p q (h ∷ earlier) fs order.2 (λ g i. np g (or_right (h == g) (is_member g fs) i)) (λ g i. nq g (or_right (h == g) (is_member g fs) i)) known f n)
    where
      here : p h ≡ q h
      here = np h (member_first h fs) ∙ (need_same p q h (λ g l. agree g (order.1 g l refl)) ∙ sym (nq h (member_first h fs)))

      more : (g : ℕ) → is_member g (h ∷ earlier) ≡ true → p g ≡ q g
      more g m = or_agree (first_cases g h earlier m)
        where
          or_agree : (h ≡ g) ⊎ (is_member g earlier ≡ true) → p g ≡ q g
          or_agree (inl e) = subst (λ (k : ℕ). p k ≡ q k) e here
          or_agree (inr m) = agree g m

      by : (h ≡ f) ⊎ (is_member f fs ≡ true) → (((g : ℕ) → is_member g (h ∷ earlier) ≡ true → p g ≡ q g) → is_member f fs ≡ true → p f ≡ q f) → p f ≡ q f
      by (inl e) later = subst (λ (k : ℕ). p k ≡ q k) e here
      by (inr n) later = later more n

  -- what the entries so far need
  done_needs : (earlier : List ℕ) (es : List EntryTree) → AreDone u fits earlier es → AreNeedsOf (pres_of (proofs_of es)) earlier
  done_needs earlier es done f m = ap pre_for (done.have f m) ∙ need_is (pres_of (proofs_of es)) f

  -- a function that calls itself, and has no entry by those before it
  pub uncounted :
      (seen earlier : List ℕ) (es : List EntryTree) (h : ℕ) → CalleesFirst (helpers u) (λ g. false) [] seen → AreDone u fits earlier es → ((f : ℕ) → is_member f seen ≡ true → is_member f earlier ≡ true)
      → ((g : ℕ) → is_member g (helpers u h) ≡ true → is_member g seen ≡ true) → calls u h h ≡ true → entry_for u (pres_of (proofs_of es)) h ≡ None → IsUncounted u (h ∷ [])
  uncounted seen earlier es h order done within listed own none = record { circle = own; uncounted = inr left }
    where
      nothing : (pres : Preconditions) → AreNeeds u pres → pres h ≡ None
      nothing pres needs =
          needs h
          ∙ (need_same pres (pres_of (proofs_of es)) h
          (λ g l. needs_agree pres (pres_of (proofs_of es)) [] seen order (λ f m. needs f) (λ f m. done_needs earlier es done f (within f m)) (λ g m. absurd (both_ways false refl m)) g (listed g l))
          ∙ (sym (need_is (pres_of (proofs_of es)) h) ∙ ap pre_for none))

      left : (pres : Preconditions) → AreNeeds u pres → CountsAlone u pres (h ∷ []) → ⊥
      left pres needs alone =
          both_ways (is_some (pres h)) (ap is_some (nothing pres needs)) (ap (λ (k : ℕ). is_some (pres k)) (alone.alone h (member_first h [])) ∙ alone.counts)
