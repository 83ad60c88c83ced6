-- Proofs whose entries are those that the functions get, in an order in which callees stand first: what they have, and that
-- each is derived.
use Rattle.std.proofs.Common.{◌≡◌, ◌==◌, ℕ, refl, sym, ap, ◌∙◌, Bool, true, false, List, [], ◌∷◌, Some, None}
use Rattle.std.specs.Prelude.{◌||◌, if◌then◌else◌, map, Option, option_map}
use Rattle.std.specs.List.{slice_get, find}
use Rattle.qs_recur.proofs.TestLaws.{some_same}
use Rattle.qs_memory.specs.Partial.{◌>>=◌}
use Rattle.qs_assert.specs.Trees.{AssertionTree}
use Rattle.qs_core.specs.CallGraph.{calls, is_member}
use Rattle.qs_core.specs.Fits.{unit_fits}
use Rattle.qs_core.specs.Trees.{CoreFunctionTree, CoreUnitTree}
use Rattle.qs_callgraph.specs.Orders.{CalleesFirst}
use Rattle.qs_triples.specs.Derivations.{SpecTree, EntryTree, ProofsTree, is_entry_of, entry_of, spec_of}
use Rattle.qs_recur.specs.Entries.{entry_in, entry_for}
use Rattle.qs_recur.specs.Needs.{Preconditions, helpers, Counting, counting, counted_need, greatest_of, passing, need_in, need, balanced}
use Rattle.qs_recur.specs.Passing.{passing_entry}
use Rattle.qs_recur.specs.Recursions.{pres_of, HasEntries, Stand, AreDerived, OnlyCountingCycle, left_of, Derives}
use Rattle.qs_recur.specs.Written.{counting_entry}
use Rattle.qs_recur.proofs.MadeLaws.{entry_derived}

-- each function has the entry that it gets by the others' preconditions
abbrev pub AreWritten : CoreUnitTree → ProofsTree → Type 0
AreWritten u proofs = (f : ℕ) → entry_of proofs f ≡ entry_for u (pres_of proofs) f

abbrev pub AreOrdered : CoreUnitTree → ProofsTree → Type 0
AreOrdered u proofs = CalleesFirst (helpers u) (λ g. false) [] (map (λ e. e.function) proofs.functions)

-- ---- specifications

abbrev pub spec_for : Option EntryTree → Option SpecTree
spec_for o = option_map (λ e. e.spec) o

module _ (u : CoreUnitTree) (pres : Preconditions) (f : ℕ) where
  counted_spec : (function : CoreFunctionTree) (o : Option Counting) → spec_for (option_map (λ c. counting_entry f c function) o) ≡ option_map balanced (counted_need f o)
  counted_spec function None = refl
  counted_spec function (Some c) = refl

  passed_spec : (function : CoreFunctionTree) (o : Option (List AssertionTree)) → spec_for (option_map (λ needs. passing_entry u pres function needs f) o) ≡ option_map balanced (option_map greatest_of o)
  passed_spec function None = refl
  passed_spec function (Some needs) = refl

  in_spec : (function : CoreFunctionTree) → spec_for (entry_in u pres f function) ≡ option_map balanced (need_in u pres f function)
  in_spec function = by (calls u f f)
    where
      by :
          (b : Bool)
          → spec_for (if b then option_map (λ c. counting_entry f c function) (counting u pres f function) else option_map (λ needs. passing_entry u pres function needs f) (passing u pres function))
          ≡ option_map balanced (if b then counted_need f (counting u pres f function) else option_map greatest_of (passing u pres function))
      by true = counted_spec function (counting u pres f function)
      by false = passed_spec function (passing u pres function)

  pub spec_is : spec_for (entry_for u pres f) ≡ option_map balanced (need u pres f)
  spec_is = by (slice_get u.functions f)
    where
      by : (o : Option CoreFunctionTree) → spec_for (o >>= entry_in u pres f) ≡ option_map balanced (o >>= need_in u pres f)
      by None = refl
      by (Some function) = in_spec function

pub pre_back : (o : Option AssertionTree) → option_map (λ (s : SpecTree). s.pre) (option_map balanced o) ≡ o
pre_back None = refl
pre_back (Some a) = refl

-- ---- where they stand

pub entry_listed : (f : ℕ) (es : List EntryTree) (e : EntryTree) → find (is_entry_of f) es ≡ Some e → is_member f (map (λ e. e.function) es) ≡ true
entry_listed f [] e h = cc
entry_listed f (d ∷ es) e h = by (d.function == f) refl h (entry_listed f es e)
  where
    by :
        (b : Bool) → (d.function == f) ≡ b → (if b then Some d else find (is_entry_of f) es) ≡ Some e → (find (is_entry_of f) es ≡ Some e → is_member f (map (λ (e : EntryTree). e.function) es) ≡ true)
        → ((d.function == f) || is_member f (map (λ (e : EntryTree). e.function) es)) ≡ true
    by true i h later = ap (λ (b : Bool). b || is_member f (map (λ (e : EntryTree). e.function) es)) i
    by false i h later = ap (λ (b : Bool). b || is_member f (map (λ (e : EntryTree). e.function) es)) i ∙ later h

-- ---- the whole

module _ (u : CoreUnitTree) (fits : unit_fits u ≡ true) (given : ProofsTree) (written : AreWritten u given) (ordered : AreOrdered u given) where
  specs_are : (f : ℕ) → spec_of given f ≡ option_map balanced (need u (pres_of given) f)
  specs_are f = ap spec_for (written f) ∙ spec_is u (pres_of given) f

  needs_are : (f : ℕ) → pres_of given f ≡ need u (pres_of given) f
  needs_are f = ap (option_map (λ (s : SpecTree). s.pre)) (specs_are f) ∙ pre_back (need u (pres_of given) f)

  pub has_entries : HasEntries u given
  has_entries = record { needs = needs_are; specs = λ f. specs_are f ∙ ap (option_map balanced) (sym (needs_are f)); order = ordered }

  -- a precondition of the file is that of an entry, which stands in all that it is filled to
  stands_as : (proofs : ProofsTree) → Stand given proofs → (g : ℕ) (pre : AssertionTree) → pres_of given g ≡ Some pre → spec_of proofs g ≡ Some (balanced pre)
  stands_as proofs stand g pre h = by (entry_of given g) refl
    where
      spec_has : spec_of given g ≡ Some (balanced pre)
      spec_has = has_entries.specs g ∙ ap (option_map balanced) h

      by : (o : Option EntryTree) → entry_of given g ≡ o → spec_of proofs g ≡ Some (balanced pre)
      by None e = absurd (none_is (sym (ap spec_for e) ∙ spec_has))
        where
          none_is : spec_for None ≡ Some (balanced pre) → ⊥
          none_is h = cc
      by (Some d) e = stand.kept g d e ∙ ap (λ (s : SpecTree). Some s) (some_same d.spec (balanced pre) (sym (ap spec_for e) ∙ spec_has))

  pub all_derived : AreDerived u given
  all_derived proofs f e stand h =
      entry_derived u fits (pres_of given) needs_are (map (λ e. e.function) given.functions) ordered f (entry_listed f given.functions e h) e (sym (written f) ∙ h) proofs stand.in_order (stands_as proofs stand)

  pub written_derives : given.defines ≡ [] → OnlyCountingCycle u (pres_of given) → Derives u given (left_of u given)
  written_derives closed cycles = record { closed = closed; entries = has_entries; derived = all_derived; left_out = refl; cycles = cycles }
