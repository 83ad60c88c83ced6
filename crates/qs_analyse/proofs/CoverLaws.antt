-- What is filled covers the unit.
use Rattle.std.proofs.Common.{◌≡◌, ℕ, suc, ◌==◌, Bool, true, false, cond, List, [], ◌∷◌, ◌++◌, length, map, filter, inl, inr, ⊎_elim, refl, sym, ap, ◌∙◌, subst}
use Rattle.std.specs.Prelude.{not, is_some, Some}
use Rattle.std.specs.List.{find, list_all}
use Rattle.std.proofs.lemmas.Bool.{both_ways, and_parts, not-true, ne_eqb, eqb-true, eqb-false, cases_Bool}
use Rattle.qs_assert.specs.declared.define.Define.{Define}
use Rattle.qs_core.specs.CallGraph.{called_by}
use Rattle.qs_core.specs.Fits.{differ}
use Rattle.qs_core.specs.Trees.{CoreUnitTree}
use Rattle.qs_triples.specs.Derivations.{EntryTree, is_entry_of}
use Rattle.qs_triples.specs.Entries.{AreClosed, has_entry}
use Rattle.qs_triples.specs.Filled.{open_definition}
use Rattle.qs_analyse.specs.Laws.{FilledProofsCover}
use Rattle.qs_analyse.proofs.NeedLaws.{calls_closed}
use Rattle.qs_analyse.proofs.OpenNames.{by_name}
use Rattle.qs_analyse.proofs.ValidLaws.{is_path}

-- ---- definitions

open_closed : (u : CoreUnitTree) (fs : List ℕ) (given : List Define) → AreClosed given → AreClosed (map (open_definition u) fs ++ given)
open_closed u [] given c = c
open_closed u (f ∷ fs) given c = (calls_closed (by_name u) (called_by u f) (λ g m. refl), open_closed u fs given c)

-- ---- entries

pub filter_filter :
    {A : Type 0} (p q : A → Bool) (xs : List A) → ((x : A) → p x ≡ true → q x ≡ true) → filter p (filter q xs) ≡ filter p xs
filter_filter p q [] h = refl
filter_filter {A} p q (x ∷ xs) h = by (p x) (q x) refl refl (h x) (filter_filter p q xs h)
  where
    by : (a b : Bool) → p x ≡ a → q x ≡ b → (p x ≡ true → q x ≡ true) → filter p (filter q xs) ≡ filter p xs
        → filter p (cond (q x) (x ∷ filter q xs) (filter q xs)) ≡ cond (p x) (x ∷ filter p xs) (filter p xs)
    by a true e d k same =
        ap (λ (b : Bool). filter p (cond b (x ∷ filter q xs) (filter q xs))) d
        ∙ ap (λ (ys : List A). cond (p x) (x ∷ ys) ys) same
    by true false e d k same = absurd (both_ways (q x) d (k e))
    by false false e d k same =
        ap (λ (b : Bool). filter p (cond b (x ∷ filter q xs) (filter q xs))) d ∙ same ∙ sym (ap (λ (b : Bool). cond b (x ∷ filter p xs) (filter p xs)) e)

none_behind : (n : ℕ) (es : List EntryTree) (f : ℕ) → list_all (λ y. not (n == y)) (map (λ (e : EntryTree). e.function) es) ≡ true → n ≡ f → filter (is_entry_of f) es ≡ []
none_behind n [] f all is = refl
none_behind n (e ∷ es) f all is =
    let parts = and_parts (not (n == e.function)) (list_all (λ y. not (n == y)) (map (λ (e : EntryTree). e.function) es)) all in
    ap (λ (b : Bool). cond b (e ∷ filter (is_entry_of f) es) (filter (is_entry_of f) es))
    (ne_eqb e.function f (λ d. eqb-false n e.function (not-true (n == e.function) parts.0) (is ∙ sym d)))
    ∙ none_behind n es f parts.1 is

-- where no function stands twice, one that stands there stands there once
one_entry : (es : List EntryTree) (f : ℕ) → differ ◌==◌ (map (λ (e : EntryTree). e.function) es) ≡ true → is_some (find (is_entry_of f) es) ≡ true → length (filter (is_entry_of f) es) ≡ 1
one_entry [] f d s = absurd (both_ways false refl s)
one_entry (e ∷ es) f d s =
    let parts = and_parts (list_all (λ y. not (e.function == y)) (map (λ (e : EntryTree). e.function) es)) (differ ◌==◌ (map (λ (e : EntryTree). e.function) es)) d in
    by (e.function == f) refl s (λ is. none_behind e.function es f parts.0 is) (λ s. one_entry es f parts.1 s)
  where
    by : (b : Bool) → (e.function == f) ≡ b → is_some (cond (e.function == f) (Some e) (find (is_entry_of f) es)) ≡ true
        → (e.function ≡ f → filter (is_entry_of f) es ≡ []) → (is_some (find (is_entry_of f) es) ≡ true → length (filter (is_entry_of f) es) ≡ 1)
        → length (cond (e.function == f) (e ∷ filter (is_entry_of f) es) (filter (is_entry_of f) es)) ≡ 1
    by true is s none more =
        ap (λ (b : Bool). length (cond b (e ∷ filter (is_entry_of f) es) (filter (is_entry_of f) es))) is
        ∙ ap (λ (xs : List EntryTree). suc (length xs)) (none (eqb-true e.function f is))
    by false is s none more =
        ap (λ (b : Bool). length (cond b (e ∷ filter (is_entry_of f) es) (filter (is_entry_of f) es))) is
        ∙ more (sym (ap (λ (b : Bool). is_some (cond b (Some e) (find (is_entry_of f) es))) is) ∙ s)

pub filled_proofs_cover : FilledProofsCover
filled_proofs_cover u given proofs fits fillable filled derived = record {
  closed = subst AreClosed (sym filled.defines) (open_closed u filled.opened given.defines fillable.closed);
  one = λ f b. ⊎_elim
      (λ (has : has_entry given f ≡ true).
      ap length (sym (filter_filter (is_entry_of f) (λ (e : EntryTree). has_entry given e.function) proofs.functions (λ e is. ap (has_entry given) (eqb-true e.function f is) ∙ has)))
      ∙ ap (λ (es : List EntryTree). length (filter (is_entry_of f) es)) filled.kept
      ∙ one_entry given.functions f fillable.once has)
      (λ (has : has_entry given f ≡ false). filled.one f b has)
      (cases_Bool (has_entry given f));
  derived = λ f e b has is. derived f e b has is;
  valid = λ f e b is. ⊎_elim
      (λ (has : has_entry given f ≡ true). inl (derived f e b has is))
      (λ (has : has_entry given f ≡ false). inr (is_path u fits given proofs filled f e has is))
      (cases_Bool (has_entry given f));
}
