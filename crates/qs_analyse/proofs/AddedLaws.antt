-- What is added one after another fills the proofs.
use Rattle.std.proofs.Common.{◌≡◌, ℕ, ◌<◌, ◌==◌, ◌||◌, Bool, true, false, cond, List, [], ◌∷◌, ◌++◌, length, map, filter, ⊎_elim, refl, sym, ap, ◌∙◌, subst}
use Rattle.std.specs.Prelude.{is_some, if◌then◌else◌, Option, Some, None}
use Rattle.std.specs.List.{find, list_any}
use Rattle.std.proofs.lemmas.Bool.{both_ways, eq-eqb, ne_eqb, or_left, or_right, false_from_ne_true, and_parts, and_from, cases_Bool, cases_eq}
use Rattle.std.proofs.lemmas.List.{append_assoc, append-nil}
use Rattle.std.proofs.lemmas.List.Elements.{filter-append}
use Rattle.std.proofs.lemmas.List.Folds.{list_any-append}
use Rattle.std.proofs.lemmas.Option.{same_Some}
use Rattle.qs_assert.specs.Trees.{AssertionTree, infinity, greatest, named, assertions_of}
use Rattle.qs_core.specs.CallGraph.{called_by, no_call, is_member}
use Rattle.qs_core.specs.Fits.{unit_fits}
use Rattle.qs_core.specs.Trees.{CoreUnitTree}
use Rattle.qs_core.specs.FunctionNames.{function_name}
use Rattle.qs_triples.specs.Derivations.{EntryTree, ProofsTree, is_entry_of, entry_of}
use Rattle.qs_triples.specs.Entries.{has_entry}
use Rattle.qs_triples.specs.Filled as filled
use Rattle.qs_triples.specs.Filled.{open_definition, for_calls, is_useless, pre_in, pre_of, path_pre, HasBoth, AreOpen, Filled}
use Rattle.qs_callgraph.specs.Opens.{TellsOpen}
use Rattle.qs_callgraph.specs.Orders.{CalleesFirst, IsOrder}
use Rattle.qs_callgraph.proofs.MemberLaws.{member_first, first_cases, member-filter, none_passes}
use Rattle.qs_callgraph.proofs.UnitCalls.{is_call}
use Rattle.qs_analyse.specs.Fillable.{IsFillable, entries_only, open_entry, path_entry, entry_for, with_entries}
use Rattle.qs_analyse.proofs.ValidLaws.{open_calls_open}

-- ---- the first entry, and all

pub found : (p : EntryTree → Bool) (es : List EntryTree) → is_some (find p es) ≡ list_any p es
found p [] = refl
found p (e ∷ es) = by (p e) (found p es)
  where
    by : (b : Bool) → is_some (find p es) ≡ list_any p es → is_some (cond b (Some e) (find p es)) ≡ (b || list_any p es)
    by true h = refl
    by false h = h

first_found : (p : EntryTree → Bool) (es : List EntryTree) (e : EntryTree) → filter p es ≡ e ∷ [] → find p es ≡ Some e
first_found p [] e h = cc
first_found p (d ∷ es) e h = by (p d) h (first_found p es e)
  where
    by : (b : Bool) → cond b (d ∷ filter p es) (filter p es) ≡ e ∷ [] → (filter p es ≡ e ∷ [] → find p es ≡ Some e) → cond b (Some d) (find p es) ≡ Some e
    by true h next = let same : d ≡ e = cc in ap Some same
    by false h next = next h

-- what is found stays found
found_stays : (p : EntryTree → Bool) (es more : List EntryTree) → list_any p es ≡ true → find p (es ++ more) ≡ find p es
found_stays p [] more h = absurd (both_ways false refl h)
found_stays p (e ∷ es) more h = by (p e) h (found_stays p es more)
  where
    by : (b : Bool) → (b || list_any p es) ≡ true → (list_any p es ≡ true → find p (es ++ more) ≡ find p es) → cond b (Some e) (find p (es ++ more)) ≡ cond b (Some e) (find p es)
    by true h next = refl
    by false h next = next h

none_kept : (p : EntryTree → Bool) (es : List EntryTree) → list_any p es ≡ false → filter p es ≡ []
none_kept p [] h = refl
none_kept p (e ∷ es) h = by (p e) h (none_kept p es)
  where
    by : (b : Bool) → (b || list_any p es) ≡ false → (list_any p es ≡ false → filter p es ≡ []) → cond b (e ∷ filter p es) (filter p es) ≡ []
    by true h next = absurd (both_ways true h refl)
    by false h next = next h

module _ (u : CoreUnitTree) (is_open : ℕ → Bool) where
  entry_function : (es : List EntryTree) (f : ℕ) → (entry_for u is_open es f).function ≡ f
  entry_function es f = by (is_open f)
    where
      by : (b : Bool) → (if b then open_entry u f else path_entry f (path_pre (entries_only es) (called_by u f))).function ≡ f
      by true = refl
      by false = refl

  abbrev pub one : List EntryTree → ℕ → List EntryTree
  one es f = entry_for u is_open es f ∷ []

  -- an entry of f is one of f alone
  is_it : (es : List EntryTree) (f g : ℕ) (b : Bool) → (f == g) ≡ b → filter (is_entry_of g) (one es f) ≡ cond b (one es f) []
  is_it es f g b e =
      ap (λ (h : ℕ). cond (h == g) (one es f) []) (entry_function es f) ∙ ap (λ (c : Bool). cond c (one es f) []) e

  -- entries stand behind those that were there
  behind : (es : List EntryTree) (fs : List ℕ) → (more : List EntryTree) × (with_entries u is_open es fs ≡ es ++ more)
  behind es [] = ([], sym (append-nil es))
  behind es (f ∷ fs) =
      let r = behind (es ++ one es f) fs in (one es f ++ r.0, r.1 ∙ append_assoc es (one es f) r.0)

  -- a filter that none of these passes
  pub filter_stays : (q : ℕ → Bool) (es : List EntryTree) (fs : List ℕ) → list_any q fs ≡ false → filter (λ (e : EntryTree). q e.function) (with_entries u is_open es fs) ≡ filter (λ (e : EntryTree). q e.function) es
  filter_stays q es [] n = refl
  filter_stays q es (f ∷ fs) n =
      let no : (q f ≡ false) × (list_any q fs ≡ false) = or_both (q f) (list_any q fs) n in
      filter_stays q (es ++ one es f) fs no.1
      ∙ filter-append (λ (e : EntryTree). q e.function) es (one es f)
      ∙ ap (λ (b : Bool). filter (λ (e : EntryTree). q e.function) es ++ cond b (one es f) []) (ap q (entry_function es f) ∙ no.0)
      ∙ append-nil (filter (λ (e : EntryTree). q e.function) es)
    where
      or_both : (a b : Bool) → (a || b) ≡ false → (a ≡ false) × (b ≡ false)
      or_both true b h = cc
      or_both false b h = (refl, h)

  -- the entry of f, and the entries that were there before it
  pub record Added (all : List EntryTree) (f : ℕ) : Type 0 where
    pub before : List EntryTree
    pub only : filter (is_entry_of f) all ≡ one before f
    pub same : (g : ℕ) → is_member g (called_by u f) ≡ true → find (is_entry_of g) before ≡ find (is_entry_of g) all

  added :
      (has_spec : ℕ → Bool) (es : List EntryTree) (earlier fs : List ℕ) → CalleesFirst (called_by u) has_spec earlier fs
      → ((g : ℕ) → has_spec g ≡ true → list_any (is_entry_of g) es ≡ true) → ((g : ℕ) → is_member g earlier ≡ true → list_any (is_entry_of g) es ≡ true)
      → (f : ℕ) → is_member f fs ≡ true → list_any (is_entry_of f) es ≡ false → Added (with_entries u is_open es fs) f
  added has_spec es earlier [] c given there f m none = absurd (both_ways false refl m)
  added has_spec es earlier (x ∷ fs) c given there f m none =
      ⊎_elim
      (λ (e : x ≡ f). subst (λ (y : ℕ). Added (with_entries u is_open (es ++ one es x) fs) y) e (record {
        before = es;
        only = only_one (subst (λ (y : ℕ). list_any (is_entry_of y) es ≡ false) (sym e) none);
        same = λ g k.
            let r = behind es (x ∷ fs) in
            let has : list_any (is_entry_of g) es ≡ true = ⊎_elim (λ (s : has_spec g ≡ true). given g s) (λ (s : has_spec g ≡ false). there g (c.1 g k s)) (cases_Bool (has_spec g)) in
            sym (ap (find (is_entry_of g)) r.1 ∙ found_stays (is_entry_of g) es r.0 has);
      }))
      (λ (n : is_member f fs ≡ true). ⊎_elim
      (λ (e : x ≡ f). absurd (both_ways (is_member x fs) (not_again (x ∷ earlier) fs x c.2 (member_first x earlier)) (subst (λ (y : ℕ). is_member y fs ≡ true) (sym e) n)))
      (λ (d : x ≡ f → ⊥). added has_spec (es ++ one es x) (x ∷ earlier) fs c.2
      (λ g s. more g (given g s))
      (λ g k. ⊎_elim (λ (e : x ≡ g). subst (λ (y : ℕ). list_any (is_entry_of y) (es ++ one es x) ≡ true) e here) (λ (k : is_member g earlier ≡ true). more g (there g k)) (first_cases g x earlier k))
      f n
      (list_any-append (is_entry_of f) es (one es x) ∙ ap (λ (b : Bool). b || list_any (is_entry_of f) (one es x)) none ∙ or_none (ap (λ (h : ℕ). h == f) (entry_function es x) ∙ ne_eqb x f d)))
      (cases_eq x f))
      (first_cases f x fs m)
    where
      or_none : {b : Bool} → b ≡ false → (b || false) ≡ false
      or_none e = ap (λ (b : Bool). b || false) e

      here : list_any (is_entry_of x) (es ++ one es x) ≡ true
      here = list_any-append (is_entry_of x) es (one es x) ∙ or_right (list_any (is_entry_of x) es) (list_any (is_entry_of x) (one es x)) (or_left ((entry_for u is_open es x).function == x) false (ap (λ (h : ℕ). h == x) (entry_function es x) ∙ eq-eqb x x refl))

      more : (g : ℕ) → list_any (is_entry_of g) es ≡ true → list_any (is_entry_of g) (es ++ one es x) ≡ true
      more g h = list_any-append (is_entry_of g) es (one es x) ∙ or_left (list_any (is_entry_of g) es) (list_any (is_entry_of g) (one es x)) h

      not_again : (earlier fs : List ℕ) (y : ℕ) → CalleesFirst (called_by u) has_spec earlier fs → is_member y earlier ≡ true → is_member y fs ≡ false
      not_again earlier [] y c k = refl
      not_again earlier (z ∷ fs) y c k = false_from_ne_true (is_member y (z ∷ fs)) (λ i. ⊎_elim
          (λ (e : z ≡ y). both_ways (is_member z earlier) c.0 (subst (λ (w : ℕ). is_member w earlier ≡ true) (sym e) k))
          (λ (i : is_member y fs ≡ true). both_ways (is_member y fs) (not_again (z ∷ earlier) fs y c.2 (or_right (z == y) (is_member y earlier) k)) i)
          (first_cases y z fs i))

      only_one : list_any (is_entry_of x) es ≡ false → filter (is_entry_of x) (with_entries u is_open (es ++ one es x) fs) ≡ one es x
      only_one none =
          filter_stays (λ (h : ℕ). h == x) (es ++ one es x) fs (not_again (x ∷ earlier) fs x c.2 (member_first x earlier))
          ∙ filter-append (is_entry_of x) es (one es x)
          ∙ ap (λ (ys : List EntryTree). ys ++ filter (is_entry_of x) (one es x)) (none_kept (is_entry_of x) es none)
          ∙ is_it es x x true (eq-eqb x x refl)

-- ---- all together

filter_found : (p : EntryTree → Bool) (es : List EntryTree) (e : EntryTree) → find p es ≡ Some e → filter p es ≡ [] → ⊥
filter_found p [] e h k = cc
filter_found p (d ∷ es) e h k = by (p d) h k (filter_found p es e)
  where
    by : (b : Bool) → cond b (Some d) (find p es) ≡ Some e → cond b (d ∷ filter p es) (filter p es) ≡ [] → (find p es ≡ Some e → filter p es ≡ [] → ⊥) → ⊥
    by true h k next = cc
    by false h k next = next h k

there_is : {A : Type 0} (o : Option A) → is_some o ≡ true → (x : A) × (o ≡ Some x)
there_is None h = absurd (both_ways false refl h)
there_is (Some x) h = (x, refl)

pub all_kept : (given : ProofsTree) (before es : List EntryTree) → given.functions ≡ before ++ es → filter (λ (e : EntryTree). has_entry given e.function) es ≡ es
all_kept given before [] is = refl
all_kept given before (e ∷ es) is =
    let has : has_entry given e.function ≡ true =
    found (is_entry_of e.function) given.functions ∙ ap (list_any (is_entry_of e.function)) is ∙ list_any-append (is_entry_of e.function) before (e ∷ es)
    ∙ or_right (list_any (is_entry_of e.function) before) (list_any (is_entry_of e.function) (e ∷ es)) (or_left (e.function == e.function) (list_any (is_entry_of e.function) es) (eq-eqb e.function e.function refl)) in
    ap (λ (b : Bool). cond b (e ∷ filter (λ (e : EntryTree). has_entry given e.function) es) (filter (λ (e : EntryTree). has_entry given e.function) es)) has
    ∙ ap (λ (xs : List EntryTree). e ∷ xs) (all_kept given (before ++ e ∷ []) es (is ∙ sym (append_assoc before (e ∷ []) es)))

-- a precondition goes by those of the functions that are called
same_parts : (p q : ℕ → AssertionTree) (gs : List ℕ) → ((g : ℕ) → is_member g gs ≡ true → p g ≡ q g) → map (filled.for_call p) gs ≡ map (filled.for_call q) gs
same_parts p q [] h = refl
same_parts p q (g ∷ gs) h =
    ap (λ (a : AssertionTree). filled.for_call (λ h. a) g ∷ map (filled.for_call p) gs) (h g (member_first g gs))
    ∙ ap (λ (xs : List AssertionTree). filled.for_call q g ∷ xs) (same_parts p q gs (λ x m. h x (or_right (g == x) (is_member x gs) m)))

same_calls : (p q : ℕ → AssertionTree) (gs : List ℕ) → ((g : ℕ) → is_member g gs ≡ true → p g ≡ q g) → for_calls p gs ≡ for_calls q gs
same_calls p q [] h = refl
same_calls p q (g ∷ []) h = ap (λ (a : AssertionTree). filled.for_call (λ h. a) g) (h g (member_first g []))
same_calls p q (g ∷ i ∷ gs) h = ap (λ (parts : List AssertionTree). greatest (assertions_of parts)) (same_parts p q (g ∷ i ∷ gs) h)

same_useless : (p q : ℕ → AssertionTree) (gs : List ℕ) → ((g : ℕ) → is_member g gs ≡ true → p g ≡ q g) → list_any (λ g. is_useless (p g)) gs ≡ list_any (λ g. is_useless (q g)) gs
same_useless p q [] h = refl
same_useless p q (g ∷ gs) h =
    ap (λ (a : AssertionTree). is_useless a || list_any (λ g. is_useless (p g)) gs) (h g (member_first g gs))
    ∙ ap (λ (b : Bool). is_useless (q g) || b) (same_useless p q gs (λ x m. h x (or_right (g == x) (is_member x gs) m)))

pub same_pre : (p q : ProofsTree) (gs : List ℕ) → ((g : ℕ) → is_member g gs ≡ true → pre_of p g ≡ pre_of q g) → path_pre p gs ≡ path_pre q gs
same_pre p q gs h =
    ap (λ (b : Bool). if b then infinity else for_calls (pre_of p) gs) (same_useless (pre_of p) (pre_of q) gs h)
    ∙ ap (λ (a : AssertionTree). if list_any (λ g. is_useless (pre_of q g)) gs then infinity else a) (same_calls (pre_of p) (pre_of q) gs h)

module _ (u : CoreUnitTree) (fits : unit_fits u ≡ true) (given : ProofsTree) (fillable : IsFillable u given) (is_open : ℕ → Bool) (tells : TellsOpen u (has_entry given) is_open) (fs : List ℕ) (order : IsOrder u (has_entry given) fs) where
  callee_open : (f g : ℕ) → is_open f ≡ true → is_member g (called_by u f) ≡ true → is_open g ≡ true
  callee_open f g o m = tells.all_there g (open_calls_open u (has_entry given) f g fits (tells.open_ones f o) (is_call u f g m))

  is_free : (f : ℕ) → is_open f ≡ true → has_entry given f ≡ false
  is_free f o = (tells.open_ones f o).none f (no_call f)

  -- the open ones of an order are in order
  open_in_order :
      (earlier before fs : List ℕ) → CalleesFirst (called_by u) (has_entry given) earlier fs
      → ((g : ℕ) → is_open g ≡ true → is_member g earlier ≡ true → is_member g before ≡ true) → ((g : ℕ) → is_member g before ≡ true → is_member g earlier ≡ true)
      → filled.CalleesFirst u before (filter is_open fs)
  open_in_order earlier before [] c there back = tt
  open_in_order earlier before (f ∷ fs) c there back =
      by (is_open f) refl
      (λ o. open_in_order (f ∷ earlier) (f ∷ before) fs c.2
      (λ g og m. ⊎_elim (λ (e : f ≡ g). or_left (f == g) (is_member g before) (eq-eqb f g e)) (λ (m : is_member g earlier ≡ true). or_right (f == g) (is_member g before) (there g og m)) (first_cases g f earlier m))
      (λ g m. ⊎_elim (λ (e : f ≡ g). or_left (f == g) (is_member g earlier) (eq-eqb f g e)) (λ (m : is_member g before ≡ true). or_right (f == g) (is_member g earlier) (back g m)) (first_cases g f before m)))
      (λ o. open_in_order (f ∷ earlier) before fs c.2
      (λ g og m. ⊎_elim (λ (e : f ≡ g). absurd (both_ways (is_open f) o (ap is_open e ∙ og))) (λ (m : is_member g earlier ≡ true). there g og m) (first_cases g f earlier m))
      (λ g m. or_right (f == g) (is_member g earlier) (back g m)))
    where
      by : (b : Bool) → is_open f ≡ b → (is_open f ≡ true → filled.CalleesFirst u (f ∷ before) (filter is_open fs)) → (is_open f ≡ false → filled.CalleesFirst u before (filter is_open fs))
          → filled.CalleesFirst u before (cond b (f ∷ filter is_open fs) (filter is_open fs))
      by true o in_it not_in = (
        false_from_ne_true (is_member f before) (λ m. both_ways (is_member f earlier) c.0 (back f m)),
        λ g m. let og = callee_open f g o m in there g og (c.1 g m (is_free g og)),
        in_it o,
      )
      by false o in_it not_in = not_in o

  pub are_open : AreOpen u given (filter is_open fs)
  are_open = record {
    open_ones = λ f m. tells.open_ones f (and_parts (is_open f) (is_member f fs) (sym (member-filter is_open f fs) ∙ m)).0;
    all_there = λ f o. member-filter is_open f fs ∙ and_from (is_open f) (is_member f fs) (tells.all_there f o) (order.all_there f o.known (o.none f (no_call f)));
    in_order = open_in_order [] [] fs order.in_order (λ g o m. m) (λ g m. m);
  }

  module _ (proofs : ProofsTree) (defines : proofs.defines ≡ map (open_definition u) (filter is_open fs) ++ given.defines) (functions : proofs.functions ≡ with_entries u is_open given.functions fs) where
    no_entry : (f : ℕ) → has_entry given f ≡ false → list_any (is_entry_of f) given.functions ≡ false
    no_entry f n = sym (found (is_entry_of f) given.functions) ∙ n

    pub added_one : (f : ℕ) → is_member f fs ≡ true → has_entry given f ≡ false → Added u is_open (with_entries u is_open given.functions fs) f
    added_one f m n =
        added u is_open (has_entry given) given.functions [] fs order.in_order (λ g s. sym (found (is_entry_of g) given.functions) ∙ s)
        (λ g k. absurd (both_ways false refl k)) f m (no_entry f n)

    -- the entry of f is the one that was added
    pub entry_is : (f : ℕ) (e : EntryTree) → (a : Added u is_open (with_entries u is_open given.functions fs) f) → entry_of proofs f ≡ Some e → entry_for u is_open a.before f ≡ e
    entry_is f e a is =
        same_Some (entry_for u is_open a.before f) e
        (sym (first_found (is_entry_of f) (with_entries u is_open given.functions fs) (entry_for u is_open a.before f) a.only) ∙ sym (ap (find (is_entry_of f)) functions) ∙ is)

    pub known_one : (e : EntryTree) (f : ℕ) → entry_of proofs f ≡ Some e → f < length u.functions
    known_one e f is =
        ⊎_elim
        (λ (has : has_entry given f ≡ true). let d = there_is (entry_of given f) has in fillable.known f d.0 d.1)
        (λ (free : has_entry given f ≡ false). ⊎_elim
        (λ (m : is_member f fs ≡ true). order.known f m)
        (λ (m : is_member f fs ≡ false). absurd (filter_found (is_entry_of f) proofs.functions e is
        (ap (filter (is_entry_of f)) functions ∙ filter_stays u is_open (λ (h : ℕ). h == f) given.functions fs m ∙ none_kept (is_entry_of f) given.functions (no_entry f free))))
        (cases_Bool (is_member f fs)))
        (cases_Bool (has_entry given f))

    pub open_both : (before : List EntryTree) (f : ℕ) (e : EntryTree) → is_open f ≡ true → entry_for u is_open before f ≡ e → HasBoth (named (function_name u f)) e
    open_both before f e o is =
        subst (HasBoth (named (function_name u f)))
        (sym (ap (λ (b : Bool). if b then open_entry u f else path_entry f (path_pre (entries_only before) (called_by u f))) o) ∙ is) (refl, refl)

    pub other_both : (before : List EntryTree) (f : ℕ) (e : EntryTree) → is_open f ≡ false → entry_for u is_open before f ≡ e → HasBoth (path_pre (entries_only before) (called_by u f)) e
    other_both before f e o is =
        subst (HasBoth (path_pre (entries_only before) (called_by u f)))
        (sym (ap (λ (b : Bool). if b then open_entry u f else path_entry f (path_pre (entries_only before) (called_by u f))) o) ∙ is) (refl, refl)

    -- the entry of an open function is what is written for it
    pub written_one : (f : ℕ) (e : EntryTree) → is_member f (filter is_open fs) ≡ true → entry_of proofs f ≡ Some e → open_entry u f ≡ e
    written_one f e m is =
        let parts = and_parts (is_open f) (is_member f fs) (sym (member-filter is_open f fs) ∙ m) in
        let a = added_one f parts.1 (none_passes (has_entry given) fs f order.none parts.1) in
        sym (ap (λ (b : Bool). if b then open_entry u f else path_entry f (path_pre (entries_only a.before) (called_by u f))) parts.0) ∙ entry_is f e a is

    abbrev pub filled_with : Filled u given proofs
    filled_with = record {
      opened = filter is_open fs;
      are_open = are_open;
      defines = defines;
      kept =
          ap (filter (λ (e : EntryTree). has_entry given e.function)) functions
          ∙ filter_stays u is_open (has_entry given) given.functions fs order.none ∙ all_kept given [] given.functions refl;
      one = λ f b free. ap (λ (es : List EntryTree). length (filter (is_entry_of f) es)) functions ∙ ap length (added_one f (order.all_there f b free) free).only;
      known = known_one;
      of_open = λ f e m is.
          let parts = and_parts (is_open f) (is_member f fs) (sym (member-filter is_open f fs) ∙ m) in
          let a = added_one f parts.1 (none_passes (has_entry given) fs f order.none parts.1) in
          open_both a.before f e parts.0 (entry_is f e a is);
      of_others = λ f e free m is.
          let there = order.all_there f (known_one e f is) free in
          let a = added_one f there free in
          let closed : is_open f ≡ false = false_from_ne_true (is_open f) (λ o. both_ways (is_member f (filter is_open fs)) m (member-filter is_open f fs ∙ and_from (is_open f) (is_member f fs) o there)) in
          subst (λ (pre : AssertionTree). HasBoth pre e)
          (same_pre (entries_only a.before) proofs (called_by u f) (λ g k. ap pre_in (a.same g k ∙ sym (ap (find (is_entry_of g)) functions))))
          (other_both a.before f e closed (entry_is f e a is));
    }

    pub fills : Filled u given proofs
    fills = filled_with
