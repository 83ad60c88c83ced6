-- The callers of functions.
use Rattle.std.proofs.Common.{◌≡◌, ℕ, ◌+◌, ◌<◌, ◌≤◌, ◌==◌, ◌||◌, ◌&&◌, ltb, Bool, true, false, List, [], ◌∷◌, ◌++◌, length, get_or, set, ⊎_elim, refl, sym, ap, ◌∙◌, subst, arith}
use Rattle.std.specs.declared.alloc.Global.{Global}
use Rattle.std.specs.declared.vec.Vec.{Vec}
use Rattle.std.proofs.lemmas.Bool.{both_ways, eq-eqb, ne_eqb, cases_eq, cases_lt, lt-ltb, le-ltb}
use Rattle.std.proofs.lemmas.List.{get_or-set_same, get_or-set_other, length-set, map-set, get_or-map}
use Rattle.std.proofs.Math.Bool.{or-false, and-false, and-true}
use Rattle.qs_base.specs.declared.function.FnId.{FnId}
use Rattle.qs_core.specs.CallGraph.{is_member}
use Rattle.qs_callgraph.specs.CallLists.{callees_in, numbers_in, number_lists}
use Rattle.qs_callgraph.specs.Opens.{with_caller}
use Rattle.qs_callgraph.proofs.MemberLaws.{member-push}

pub length-with_caller : (f : ℕ) (gs : List ℕ) (callers : List (List ℕ)) → length (with_caller f gs callers) ≡ length callers
length-with_caller f [] callers = refl
length-with_caller f (g ∷ gs) callers =
    length-with_caller f gs (set callers g (callees_in callers g ++ f ∷ [])) ∙ length-set callers g (callees_in callers g ++ f ∷ [])

or_and : (a b c d : Bool) → ((a || (b && c)) || (b && d)) ≡ (a || (b && (c || d)))
or_and true b c d = refl
or_and false true c d = refl
or_and false false c d = refl

one_caller :
    (f g : ℕ) (callers : List (List ℕ)) (x y : ℕ) → g < length callers
    → is_member x (callees_in (set callers g (callees_in callers g ++ f ∷ [])) y) ≡ (is_member x (callees_in callers y) || ((f == x) && (g == y)))
one_caller f g callers x y b =
    ⊎_elim
    (λ (e : y ≡ g). ap (λ (z : ℕ). is_member x (callees_in (set callers g (callees_in callers g ++ f ∷ [])) z)) e
    ∙ ap (is_member x) (get_or-set_same callers g (callees_in callers g ++ f ∷ []) [] b)
    ∙ member-push x f (callees_in callers g)
    ∙ sym (ap (λ (c : Bool). is_member x (callees_in callers y) || ((f == x) && c)) (eq-eqb g y (sym e)) ∙ ap (λ (c : Bool). is_member x (callees_in callers y) || c) (and-true (f == x))
    ∙ ap (λ (z : ℕ). is_member x (callees_in callers z) || (f == x)) e))
    (λ (d : y ≡ g → ⊥). ap (is_member x) (get_or-set_other callers g y (callees_in callers g ++ f ∷ []) [] d)
    ∙ sym (ap (λ (c : Bool). is_member x (callees_in callers y) || ((f == x) && c)) (ne_eqb g y (λ e. d (sym e))) ∙ ap (λ (c : Bool). is_member x (callees_in callers y) || c) (and-false (f == x))
    ∙ or-false (is_member x (callees_in callers y))))
    (cases_eq y g)

pub caller_added :
    (f : ℕ) (gs : List ℕ) (callers : List (List ℕ)) (x y : ℕ) → ((g : ℕ) → is_member g gs ≡ true → g < length callers)
    → is_member x (callees_in (with_caller f gs callers) y) ≡ (is_member x (callees_in callers y) || ((f == x) && is_member y gs))
caller_added f [] callers x y within =
    sym (ap (λ (c : Bool). is_member x (callees_in callers y) || c) (and-false (f == x)) ∙ or-false (is_member x (callees_in callers y)))
caller_added f (g ∷ gs) callers x y within =
    let next = set callers g (callees_in callers g ++ f ∷ []) in
    caller_added f gs next x y (λ h m. subst (λ (n : ℕ). h < n) (sym (length-set callers g (callees_in callers g ++ f ∷ []))) (within h (or_behind (g == h) (is_member h gs) m)))
    ∙ ap (λ (c : Bool). c || ((f == x) && is_member y gs)) (one_caller f g callers x y (within g (or_first (g == g) (is_member g gs) (eq-eqb g g refl))))
    ∙ or_and (is_member x (callees_in callers y)) (f == x) (g == y) (is_member y gs)
  where
    or_behind : (a b : Bool) → b ≡ true → (a || b) ≡ true
    or_behind true b e = refl
    or_behind false b e = e

    or_first : (a b : Bool) → a ≡ true → (a || b) ≡ true
    or_first true b e = refl
    or_first false b e = absurd (both_ways false refl e)

-- ---- the loop over all functions

-- the callers below i are there
pub record AddedBelow (graph callers : List (List ℕ)) (i : ℕ) : Type 0 where
  pub as_many : length callers ≡ length graph
  pub same : (f g : ℕ) → is_member f (callees_in callers g) ≡ (ltb f i && is_member g (callees_in graph f))

below_next : (f i : ℕ) → ltb f (i + 1) ≡ (ltb f i || (i == f))
below_next f i =
    ⊎_elim (λ (e : f ≡ i). lt-ltb f (i + 1) (omega arith) ∙ sym (ap (λ (c : Bool). ltb f i || c) (eq-eqb i f (sym e)) ∙ or-true (ltb f i)))
    (λ (d : f ≡ i → ⊥). ⊎_elim
    (λ (l : f < i). lt-ltb f (i + 1) (omega arith) ∙ sym (ap (λ (c : Bool). c || (i == f)) (lt-ltb f i l)))
    (λ (l : i ≤ f). le-ltb f (i + 1) (omega (arith, l, d)) ∙ sym (ap (λ (c : Bool). c || (i == f)) (le-ltb f i l) ∙ ne_eqb i f (λ e. d (sym e))))
    (cases_lt f i)) (cases_eq f i)
  where
    or-true : (b : Bool) → (b || true) ≡ true
    or-true true = refl
    or-true false = refl

pub added_more :
    (graph callers next : List (List ℕ)) (i : ℕ) (gs : List ℕ) → AddedBelow graph callers i → gs ≡ callees_in graph i
    → ((g : ℕ) → is_member g gs ≡ true → g < length graph) → next ≡ with_caller i gs callers → AddedBelow graph next (i + 1)
added_more graph callers next i gs a at within is = record {
  as_many = ap length is ∙ length-with_caller i gs callers ∙ a.as_many;
  same = λ f g.
      ap (λ (cs : List (List ℕ)). is_member f (callees_in cs g)) is
      ∙ caller_added i gs callers f g (λ h m. subst (λ (n : ℕ). h < n) (sym a.as_many) (within h m))
      ∙ ap (λ (c : Bool). c || ((i == f) && is_member g gs)) (a.same f g)
      ∙ joined f g;
}
  where
    or_both : (p q : Bool) → ((p && q) || false) ≡ ((p || false) && q)
    or_both true true = refl
    or_both true false = refl
    or_both false q = refl

    both_or : (p q : Bool) → ((p && q) || q) ≡ ((p || true) && q)
    both_or true true = refl
    both_or true false = refl
    both_or false q = refl

    joined : (f g : ℕ) → ((ltb f i && is_member g (callees_in graph f)) || ((i == f) && is_member g gs)) ≡ (ltb f (i + 1) && is_member g (callees_in graph f))
    joined f g =
        ⊎_elim
        (λ (e : i ≡ f).
        ap (λ (c : Bool). (ltb f i && is_member g (callees_in graph f)) || (c && is_member g gs)) (eq-eqb i f e)
        ∙ ap (λ (xs : List ℕ). (ltb f i && is_member g (callees_in graph f)) || is_member g xs) (at ∙ ap (callees_in graph) e)
        ∙ both_or (ltb f i) (is_member g (callees_in graph f))
        ∙ ap (λ (c : Bool). (ltb f i || c) && is_member g (callees_in graph f)) (sym (eq-eqb i f e))
        ∙ ap (λ (c : Bool). c && is_member g (callees_in graph f)) (sym (below_next f i)))
        (λ (d : i ≡ f → ⊥).
        ap (λ (c : Bool). (ltb f i && is_member g (callees_in graph f)) || (c && is_member g gs)) (ne_eqb i f d)
        ∙ or_both (ltb f i) (is_member g (callees_in graph f))
        ∙ ap (λ (c : Bool). (ltb f i || c) && is_member g (callees_in graph f)) (sym (ne_eqb i f d))
        ∙ ap (λ (c : Bool). c && is_member g (callees_in graph f)) (sym (below_next f i)))
        (cases_eq i f)

-- ---- lists of functions

-- a function more at this place
pub put_at :
    (lists : List (Vec FnId Global)) (g f : ℕ) (old new : Vec FnId Global) → g < length lists → old ≡ get_or lists g old
    → numbers_in new ≡ numbers_in old ++ f ∷ [] → number_lists (set lists g new) ≡ set (number_lists lists) g (callees_in (number_lists lists) g ++ f ∷ [])
put_at lists g f old new b at is =
    map-set numbers_in lists g new
    ∙ ap (set (number_lists lists) g) (is ∙ ap (λ (xs : List ℕ). xs ++ f ∷ []) (ap numbers_in at ∙ sym (get_or-map numbers_in lists g old [] b)))

-- the list at a place
pub list_at : (lists : List (Vec FnId Global)) (i : ℕ) (v : Vec FnId Global) → i < length lists → v ≡ get_or lists i v → numbers_in v ≡ callees_in (number_lists lists) i
list_at lists i v b is = ap numbers_in is ∙ sym (get_or-map numbers_in lists i v [] b)
