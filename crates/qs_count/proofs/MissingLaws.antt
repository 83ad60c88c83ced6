-- What is found is the first function that needs an entry and has none.
use Rattle.std.proofs.Common.{◌≡◌, ◌⊎◌, inl, inr, ⊎_elim, ℕ, ◌<◌, ◌≤◌, ◌==◌, Bool, true, false, if◌then◌else◌, cond, List, [], ◌∷◌, ◌++◌, Option, Some, None, refl, sym, ap, ◌∙◌, subst, arith}
use Rattle.std.specs.Prelude.{min, is_some}
use Rattle.std.specs.List.{slice_get, find}
use Rattle.std.proofs.lemmas.Bool.{eq-eqb, eqb-true, or_cases, or_left, or_right, both_ways, cases_lt}
use Rattle.std.proofs.lemmas.List.Folds.{list_any-append}
use Rattle.std.proofs.lemmas.Option.{same_Some}
use Rattle.qs_base.specs.declared.function.FnId.{FnId}
use Rattle.qs_core.specs.CallGraph.{callees_of, calls, HasCall, is_member}
use Rattle.qs_core.specs.Trees.{CoreUnitTree}
use Rattle.qs_core.specs.UnitTrees.{unit_tree}
use Rattle.qs_core.specs.declared.unit.CoreUnit.{CoreUnit}
use Rattle.qs_triples.specs.Derivations.{EntryTree, ProofsTree, is_entry_of}
use Rattle.qs_triples.specs.Entries.{has_entry}
use Rattle.qs_triples.specs.TreeOf.{proofs_tree}
use Rattle.qs_triples.specs.declared.derivation.Proofs.{Proofs}
use Rattle.qs_callgraph.proofs.MemberLaws.{member_first, member_kept, member_behind, first_cases}
use Rattle.qs_count.specs.Covered.{HasCaller, NeedsEntry, TellsMissing}
use Rattle.qs_count.specs.Missing.{earlier, with_functions, called_in, number_of}

pub with_functions-append : (p : ProofsTree) (found : Option ℕ) (fs gs : List ℕ) → with_functions p found (fs ++ gs) ≡ with_functions p (with_functions p found fs) gs
with_functions-append p found [] gs = refl
with_functions-append p found (f ∷ fs) gs = with_functions-append p (if has_entry p f then found else earlier found f) fs gs

-- ---- what is found

-- nothing was found before, and all of the list have an entry
record FindsNone (p : ProofsTree) (found : Option ℕ) (fs : List ℕ) : Type 0 where
  nothing : found ≡ None
  all : (f : ℕ) → is_member f fs ≡ true → has_entry p f ≡ true

-- the least of what was found before and of those of the list without an entry
record FindsLeast (p : ProofsTree) (found : Option ℕ) (fs : List ℕ) (f : ℕ) : Type 0 where
  there : (found ≡ Some f) ⊎ ((is_member f fs ≡ true) × (has_entry p f ≡ false))
  before : (g : ℕ) → found ≡ Some g → f ≤ g
  least : (g : ℕ) → is_member g fs ≡ true → has_entry p g ≡ false → f ≤ g

abbrev IsFound : ProofsTree → (found : Option ℕ) → List ℕ → (result : Option ℕ) → Type 0
IsFound p found fs None = FindsNone p found fs
IsFound p found fs (Some f) = FindsLeast p found fs f

at_end : (p : ProofsTree) (found : Option ℕ) → IsFound p found [] found
at_end p None = record { nothing = refl; all = λ f m. absurd (both_ways false refl m) }
at_end p (Some f) = record {
  there = inl refl;
  before = λ g is. let e = same_Some f g is in omega (arith, e);
  least = λ g m none. absurd (both_ways false refl m);
}

-- one that has an entry changes nothing
passed : (p : ProofsTree) (found : Option ℕ) (f : ℕ) (fs : List ℕ) (r : Option ℕ) → has_entry p f ≡ true → IsFound p found fs r → IsFound p found (f ∷ fs) r
passed p found f fs None has h = record {
  nothing = h.nothing;
  all = λ g m. ⊎_elim (λ (e : f ≡ g). ap (has_entry p) (sym e) ∙ has) (λ (n : is_member g fs ≡ true). h.all g n) (first_cases g f fs m);
}
passed p found f fs (Some k) has h = record {
  there =
      ⊎_elim (λ (e : found ≡ Some k). inl e)
      (λ (n : (is_member k fs ≡ true) × (has_entry p k ≡ false)). inr (or_right (f == k) (is_member k fs) n.0, n.1)) h.there;
  before = h.before;
  least = λ g m none.
      ⊎_elim (λ (e : f ≡ g). absurd (both_ways (has_entry p f) (ap (has_entry p) e ∙ none) has))
      (λ (n : is_member g fs ≡ true). h.least g n none) (first_cases g f fs m);
}

from_earlier : (p : ProofsTree) (found : Option ℕ) (f : ℕ) (fs : List ℕ) (k : ℕ) → has_entry p f ≡ false → earlier found f ≡ Some k → (found ≡ Some k) ⊎ ((is_member k (f ∷ fs) ≡ true) × (has_entry p k ≡ false))
from_earlier p None f fs k none is = let e = same_Some f k is in inr (or_left (f == k) (is_member k fs) (eq-eqb f k e), ap (has_entry p) (sym e) ∙ none)
from_earlier p (Some g) f fs k none is =
    let e = same_Some (min g f) k is in
    ⊎_elim
    (λ (less : f < g). let same : f ≡ k = omega (arith, e, less) in inr (or_left (f == k) (is_member k fs) (eq-eqb f k same), ap (has_entry p) (sym same) ∙ none))
    (λ (more : g ≤ f). let same : g ≡ k = omega (arith, e, more) in inl (ap Some same)) (cases_lt f g)

before_earlier : (found : Option ℕ) (f k g : ℕ) → found ≡ Some g → ((h : ℕ) → earlier found f ≡ Some h → k ≤ h) → k ≤ g
before_earlier None f k g is h = cc
before_earlier (Some j) f k g is h = let e = same_Some j g is in let le = h (min j f) refl in omega (arith, e, le)

least_earlier : (found : Option ℕ) (f k g : ℕ) → f ≡ g → ((h : ℕ) → earlier found f ≡ Some h → k ≤ h) → k ≤ g
least_earlier None f k g e h = let le = h f refl in omega (arith, e, le)
least_earlier (Some j) f k g e h = let le = h (min j f) refl in omega (arith, e, le)

-- one that has none is found, or an earlier one
added : (p : ProofsTree) (found : Option ℕ) (f : ℕ) (fs : List ℕ) (r : Option ℕ) → has_entry p f ≡ false → IsFound p (earlier found f) fs r → IsFound p found (f ∷ fs) r
added p found f fs None none h = absurd (never found h.nothing)
  where
    never : (found : Option ℕ) → earlier found f ≡ None → ⊥
    never None e = cc
    never (Some g) e = cc
added p found f fs (Some k) none h = record {
  there =
      ⊎_elim (λ (e : earlier found f ≡ Some k). from_earlier p found f fs k none e)
      (λ (n : (is_member k fs ≡ true) × (has_entry p k ≡ false)). inr (or_right (f == k) (is_member k fs) n.0, n.1)) h.there;
  before = λ g is. before_earlier found f k g is h.before;
  least = λ g m without.
      ⊎_elim (λ (e : f ≡ g). least_earlier found f k g e h.before) (λ (n : is_member g fs ≡ true). h.least g n without) (first_cases g f fs m);
}

finds : (p : ProofsTree) (found : Option ℕ) (fs : List ℕ) → IsFound p found fs (with_functions p found fs)
finds p found [] = at_end p found
finds p found (f ∷ fs) = by (has_entry p f) refl (finds p found fs) (finds p (earlier found f) fs)
  where
    by :
        (b : Bool) → has_entry p f ≡ b → IsFound p found fs (with_functions p found fs)
        → IsFound p (earlier found f) fs (with_functions p (earlier found f) fs)
        → IsFound p found (f ∷ fs) (with_functions p (if b then found else earlier found f) fs)
    by true has h k = passed p found f fs (with_functions p found fs) has h
    by false none h k = added p found f fs (with_functions p (earlier found f) fs) none k

-- ---- the functions that entries call

called_there : (u : CoreUnitTree) (es : List EntryTree) (f g : ℕ) → is_some (find (is_entry_of f) es) ≡ true → HasCall u f g → is_member g (called_in u es) ≡ true
called_there u [] f g has called = cc
called_there u (e ∷ es) f g has called = by (e.function == f) refl has (called_there u es f g)
  where
    by :
        (b : Bool) → (e.function == f) ≡ b → is_some (cond b (Some e) (find (is_entry_of f) es)) ≡ true
        → (is_some (find (is_entry_of f) es) ≡ true → HasCall u f g → is_member g (called_in u es) ≡ true) → is_member g (called_in u (e ∷ es)) ≡ true
    by true same has others =
        member_kept g (callees_of (slice_get u.functions e.function)) (called_in u es) (ap (λ (h : ℕ). calls u h g) (eqb-true e.function f same) ∙ called)
    by false same has others = member_behind g (callees_of (slice_get u.functions e.function)) (called_in u es) (others has called)

record Caller (u : CoreUnitTree) (es : List EntryTree) (g : ℕ) : Type 0 where
  caller : ℕ
  has : is_some (find (is_entry_of caller) es) ≡ true
  calls : HasCall u caller g

caller_there : (u : CoreUnitTree) (es : List EntryTree) (g : ℕ) → is_member g (called_in u es) ≡ true → Caller u es g
caller_there u [] g m = cc
caller_there u (e ∷ es) g m =
    ⊎_elim
    (λ (h : is_member g (callees_of (slice_get u.functions e.function)) ≡ true).
    record { caller = e.function; has = own (e.function == e.function) (eq-eqb e.function e.function refl); calls = h })
    (λ (h : is_member g (called_in u es) ≡ true). later (caller_there u es g h))
    (or_cases (is_member g (callees_of (slice_get u.functions e.function))) (is_member g (called_in u es))
    (sym (list_any-append (λ (h : ℕ). h == g) (callees_of (slice_get u.functions e.function)) (called_in u es)) ∙ m))
  where
    own : (b : Bool) → b ≡ true → is_some (cond b (Some e) (find (is_entry_of e.function) es)) ≡ true
    own true same = refl
    own false same = cc

    kept : (f : ℕ) (b : Bool) → is_some (find (is_entry_of f) es) ≡ true → is_some (cond b (Some e) (find (is_entry_of f) es)) ≡ true
    kept f true h = refl
    kept f false h = h

    later : Caller u es g → Caller u (e ∷ es) g
    later c = record { caller = c.caller; has = kept c.caller (e.function == c.caller) c.has; calls = c.calls }

-- ---- the functions that need an entry

abbrev pub needing : CoreUnitTree → ProofsTree → List ℕ
needing u p = u.main ∷ called_in u p.functions

needs : (u : CoreUnitTree) (p : ProofsTree) (f : ℕ) → is_member f (needing u p) ≡ true → NeedsEntry u p f
needs u p f m =
    ⊎_elim (λ (e : u.main ≡ f). inl e)
    (λ (h : is_member f (called_in u p.functions) ≡ true).
    let c = caller_there u p.functions f h in
    inr (record { caller = c.caller; has = c.has; calls = c.calls }))
    (first_cases f u.main (called_in u p.functions) m)

needed : (u : CoreUnitTree) (p : ProofsTree) (f : ℕ) → NeedsEntry u p f → is_member f (needing u p) ≡ true
needed u p f need =
    ⊎_elim (λ (e : u.main ≡ f). subst (λ (g : ℕ). is_member g (needing u p) ≡ true) e (member_first u.main (called_in u p.functions)))
    (λ (c : HasCaller u p f). or_right (u.main == f) (is_member f (called_in u p.functions)) (called_there u p.functions c.caller f c.has c.calls)) need

pub tells_missing :
    (unit : CoreUnit) (proofs : Proofs) (result : Option FnId)
    → number_of result ≡ with_functions (proofs_tree proofs) None ((unit_tree unit).main ∷ called_in (unit_tree unit) (proofs_tree proofs).functions)
    → TellsMissing unit proofs result
tells_missing unit proofs None is =
    let u = unit_tree unit in
    let p = proofs_tree proofs in
    let h : FindsNone p None (needing u p) = subst (IsFound p None (needing u p)) (sym is) (finds p None (needing u p)) in
    λ f need. h.all f (needed u p f need)
tells_missing unit proofs (Some f) is =
    let u = unit_tree unit in
    let p = proofs_tree proofs in
    let h : FindsLeast p None (needing u p) f.0 = subst (IsFound p None (needing u p)) (sym is) (finds p None (needing u p)) in
    record {
      missing =
          ⊎_elim (λ (e : None ≡ Some f.0). cc)
          (λ (m : (is_member f.0 (needing u p) ≡ true) × (has_entry p f.0 ≡ false)). record { needed = needs u p f.0 m.0; none = m.1 }) h.there;
      first = λ g m. h.least g (needed u p g m.needed) m.none;
    }
