-- Members of lists of numbers.
use Rattle.std.proofs.Common.{◌≡◌, ℕ, zero, suc, ◌<◌, ◌==◌, ◌||◌, ◌&&◌, Bool, true, false, List, [], ◌∷◌, ◌++◌, filter, length, get_or, take, drop, ◌⊎◌, inl, inr, ⊎_elim, refl, sym, ap, ◌∙◌, subst, arith}
use Rattle.std.specs.List.{list_any}
use Rattle.std.proofs.lemmas.Bool.{eq-eqb, eqb-true, or_cases, or_left, or_right, or_from, both_ways, false_from_ne_true, cases_eq}
use Rattle.std.proofs.lemmas.List.Folds.{list_any-append}
use Rattle.std.proofs.lemmas.Map.Views.{any-filter_same}
use Rattle.std.specs.declared.alloc.Global.{Global}
use Rattle.std.specs.declared.vec.Vec.{Vec}
use Rattle.std.proofs.lemmas.List.{take_at}
use Rattle.std.proofs.Math.Bool.{or-false}
use Rattle.qs_base.specs.declared.function.FnId.{FnId}
use Rattle.qs_core.specs.CallGraph.{below, is_member}
use Rattle.qs_callgraph.specs.CallLists.{numbers}

pub member-push : (g f : ℕ) (fs : List ℕ) → is_member g (fs ++ f ∷ []) ≡ (is_member g fs || (f == g))
member-push g f fs = list_any-append (λ (h : ℕ). h == g) fs (f ∷ []) ∙ ap (λ b. is_member g fs || b) (or-false (f == g))

pub member_cases : (g f : ℕ) (fs : List ℕ) → is_member g (fs ++ f ∷ []) ≡ true → (is_member g fs ≡ true) ⊎ (f ≡ g)
member_cases g f fs m =
    ⊎_elim (λ (h : is_member g fs ≡ true). inl h) (λ (h : (f == g) ≡ true). inr (eqb-true f g h))
    (or_cases (is_member g fs) (f == g) (sym (member-push g f fs) ∙ m))

pub member_kept : (g : ℕ) (fs gs : List ℕ) → is_member g fs ≡ true → is_member g (fs ++ gs) ≡ true
member_kept g fs gs m = list_any-append (λ (h : ℕ). h == g) fs gs ∙ or_left (is_member g fs) (is_member g gs) m

pub member_behind : (g : ℕ) (fs gs : List ℕ) → is_member g gs ≡ true → is_member g (fs ++ gs) ≡ true
member_behind g fs gs m = list_any-append (λ (h : ℕ). h == g) fs gs ∙ or_right (is_member g fs) (is_member g gs) m

pub member_last : (f : ℕ) (fs : List ℕ) → is_member f (fs ++ f ∷ []) ≡ true
member_last f fs = member-push f f fs ∙ or_right (is_member f fs) (f == f) (eq-eqb f f refl)

pub member_first : (f : ℕ) (fs : List ℕ) → is_member f (f ∷ fs) ≡ true
member_first f fs = or_left (f == f) (is_member f fs) (eq-eqb f f refl)

pub first_cases : (g f : ℕ) (fs : List ℕ) → is_member g (f ∷ fs) ≡ true → (f ≡ g) ⊎ (is_member g fs ≡ true)
first_cases g f fs m =
    ⊎_elim (λ (h : (f == g) ≡ true). inl (eqb-true f g h)) (λ (h : is_member g fs ≡ true). inr h) (or_cases (f == g) (is_member g fs) m)

-- no member passes the test
pub none_pass : (test : ℕ → Bool) (fs : List ℕ) → ((f : ℕ) → is_member f fs ≡ true → test f ≡ false) → list_any test fs ≡ false
none_pass test [] h = refl
none_pass test (f ∷ fs) h =
    or_from (test f) (list_any test fs) (h f (member_first f fs)) (none_pass test fs (λ g m. h g (or_right (f == g) (is_member g fs) m)))

pub none_passes : (test : ℕ → Bool) (fs : List ℕ) (f : ℕ) → list_any test fs ≡ false → is_member f fs ≡ true → test f ≡ false
none_passes test fs f none m = false_from_ne_true (test f) (λ t. both_ways (list_any test fs) none (passes fs m t))
  where
    passes : (fs : List ℕ) → is_member f fs ≡ true → test f ≡ true → list_any test fs ≡ true
    passes [] m t = absurd (both_ways false refl m)
    passes (g ∷ gs) m t =
        ⊎_elim (λ (e : g ≡ f). or_left (test g) (list_any test gs) (ap test e ∙ t))
        (λ (n : is_member f gs ≡ true). or_right (test g) (list_any test gs) (passes gs n t)) (first_cases f g gs m)

-- ---- numbers below a number

pub below_member : (n f : ℕ) → is_member f (below n) ≡ true → f < n
below_member zero f m = absurd (both_ways false refl m)
below_member (suc n) f m =
    ⊎_elim (λ (h : is_member f (below n) ≡ true). let b = below_member n f h in omega (arith, b)) (λ (e : n ≡ f). omega (arith, e))
    (member_cases f n (below n) m)

pub member_below : (n f : ℕ) → f < n → is_member f (below n) ≡ true
member_below zero f b = absurd (omega (arith, b))
member_below (suc n) f b =
    ⊎_elim (λ (e : n ≡ f). subst (λ g. is_member g (below n ++ n ∷ []) ≡ true) e (member_last n (below n)))
    (λ (d : n ≡ f → ⊥). member_kept f (below n) (n ∷ []) (member_below n f (omega (arith, b, d)))) (cases_eq n f)

pub member-filter : (test : ℕ → Bool) (f : ℕ) (fs : List ℕ) → is_member f (filter test fs) ≡ (test f && is_member f fs)
member-filter test f fs = any-filter_same (λ (h : ℕ). h == f) test (test f) (λ k e. ap test (eqb-true k f e)) fs

-- ---- lists of functions

pub number_in : (fs : List FnId) (i : ℕ) (d : FnId) → i < length fs → is_member (get_or fs i d).0 (numbers fs) ≡ true
number_in [] i d b = absurd (omega (arith, b))
number_in (f ∷ fs) zero d b = member_first f.0 (numbers fs)
number_in (f ∷ fs) (suc i) d b = or_right (f.0 == (get_or fs i d).0) (is_member (get_or fs i d).0 (numbers fs)) (number_in fs i d (omega (arith, b)))

-- what is written back is what is there now
pub written_back : {A : Type 0} (v : Vec A Global) (new old : List A) → length new ≡ length old → old ≡ v.items → take v.len (new ++ drop (length new) v.items) ≡ new
written_back v new old e is = let l = ap length is in let n = v.ok.0 in take_at new (drop (length new) v.items) v.len (omega (arith, e, l, n))
