-- What tests of lists say, and of what can come behind an instruction.
use Rattle.std.proofs.Common.{◌≡◌, ℕ, zero, suc, ◌+◌, ◌<◌, ◌≤◌, ◌==◌, ◌&&◌, ◌||◌, not, Bool, true, false, if◌then◌else◌, List, [], ◌∷◌, ◌++◌, length, drop, Option, Some, None, refl, sym, ap, ◌∙◌, subst, ◌⊎◌, inl, inr, arith}
use Rattle.std.specs.Prelude.{Contains, option_to_list}
use Rattle.std.specs.List.{slice_get, list_all}
use Rattle.std.proofs.lemmas.List.{drop_more}
use Rattle.std.proofs.lemmas.Option.{get_or_from_slice_get}
use Rattle.std.proofs.lemmas.Bool.Decides.{nat_tests}
use Rattle.qs_tac.specs.Trees.{InstructionTree}
use Rattle.qs_tac.specs.Liveness.{goes_on, target, nexts}
use Rattle.qs_alloc.specs.Verification.{is_among, is_written}

-- ---- Bools

pub and_true : (a b : Bool) → a && b ≡ true → (a ≡ true) × (b ≡ true)
and_true true true h = (refl, refl)
and_true true false h = cc
and_true false b h = cc

pub both_true : (a b : Bool) → a ≡ true → b ≡ true → a && b ≡ true
both_true true true h k = refl
both_true true false h k = cc
both_true false b h k = cc

pub or_true : (a b : Bool) → a || b ≡ true → (a ≡ true) ⊎ (b ≡ true)
or_true true b h = inl refl
or_true false b h = inr h

pub or_left : (a b : Bool) → a ≡ true → a || b ≡ true
or_left true b h = refl
or_left false b h = cc

pub or_right : (a b : Bool) → b ≡ true → a || b ≡ true
or_right true b h = refl
or_right false b h = h

pub not_both : (a : Bool) → a ≡ true → not a ≡ true → ⊥
not_both true h k = cc
not_both false h k = cc

pub same : (a b : ℕ) → (a == b) ≡ true → a ≡ b
same a b h = grind (arith, nat_tests, h)

pub equal : (a b : ℕ) → a ≡ b → (a == b) ≡ true
equal a b h = grind (arith, nat_tests, h)

pub three_say : (a b c : Bool) → a && b && c ≡ true → (a ≡ true) × (b ≡ true) × (c ≡ true)
three_say true true c h = (refl, refl, h)
three_say true false c h = absurd cc
three_say false b c h = absurd cc

pub three_pass : (a b c : Bool) → a ≡ true → b ≡ true → c ≡ true → a && b && c ≡ true
three_pass true true c h k l = l
three_pass true false c h k l = absurd cc
three_pass false b c h k l = absurd cc

pub five_say : (a b c d e : Bool) → a && b && c && d && e ≡ true → (a ≡ true) × (b ≡ true) × (c ≡ true) × (d ≡ true) × (e ≡ true)
five_say true true true true e h = (refl, refl, refl, refl, h)
five_say true true true false e h = absurd cc
five_say true true false d e h = absurd cc
five_say true false c d e h = absurd cc
five_say false b c d e h = absurd cc

pub five_pass : (a b c d e : Bool) → a ≡ true → b ≡ true → c ≡ true → d ≡ true → e ≡ true → a && b && c && d && e ≡ true
five_pass true true true true e h k l m n = n
five_pass true true true false e h k l m n = absurd cc
five_pass true true false d e h k l m n = absurd cc
five_pass true false c d e h k l m n = absurd cc
five_pass false b c d e h k l m n = absurd cc

pub five_fail : (a b c d e : Bool) → a ≡ false → a && b && c && d && e ≡ false
five_fail true b c d e h = absurd cc
five_fail false b c d e h = refl

-- ---- lists

pub none_in_empty : {A : Type 0} (x : A) → Contains [] x → ⊥
none_in_empty x c = let k : c.0 < 0 = c.1 in omega arith

pub all_say : {A : Type 0} (test : A → Bool) (xs : List A) → list_all test xs ≡ true → (x : A) → Contains xs x → test x ≡ true
all_say test [] h x c = absurd (none_in_empty x c)
all_say test (y ∷ xs) h x (zero, l, e) = subst (λ z. test z ≡ true) e (and_true (test y) (list_all test xs) h).0
all_say test (y ∷ xs) h x (suc k, l, e) = all_say test xs (and_true (test y) (list_all test xs) h).1 x (k, omega (arith, l), e)

pub all_pass : {A : Type 0} (test : A → Bool) (xs : List A) → ((x : A) → Contains xs x → test x ≡ true) → list_all test xs ≡ true
all_pass test [] h = refl
all_pass test (y ∷ xs) h =
    both_true (test y) (list_all test xs) (h y (0, omega arith, refl))
    (all_pass test xs (λ x c. h x (suc c.0, omega (arith, c.1), c.2)))

pub among_say : (list : List ℕ) (t : ℕ) → is_among list t ≡ true → Contains list t
among_say [] t h = absurd cc
among_say (u ∷ list) t h = by (among_say list t) (or_true (u == t) (is_among list t) h)
  where
    by : (is_among list t ≡ true → Contains list t) → ((u == t) ≡ true) ⊎ (is_among list t ≡ true) → Contains (u ∷ list) t
    by rest (inl e) = (0, omega arith, same u t e)
    by rest (inr more) = let c = rest more in (suc c.0, omega (arith, c.1), c.2)

pub among_pass : (list : List ℕ) (t : ℕ) → Contains list t → is_among list t ≡ true
among_pass [] t c = absurd (none_in_empty t c)
among_pass (u ∷ list) t (zero, l, e) = or_left (u == t) (is_among list t) (equal u t e)
among_pass (u ∷ list) t (suc k, l, e) = or_right (u == t) (is_among list t) (among_pass list t (k, omega (arith, l), e))

pub written_say : (w : Option ℕ) (t : ℕ) → is_written w t ≡ true → w ≡ Some t
written_say None t h = absurd cc
written_say (Some x) t h = ap Some (same x t h)

pub written_pass : (w : Option ℕ) (t : ℕ) → w ≡ Some t → is_written w t ≡ true
written_pass None t e = absurd cc
written_pass (Some x) t e = let is : x ≡ t = cc in equal x t is

-- ---- a list from an index on

pub low_or_high : (m n : ℕ) → (m < n) ⊎ (n ≤ m)
low_or_high zero zero = inr (omega arith)
low_or_high zero (suc n) = inl (omega arith)
low_or_high (suc m) zero = inr (omega arith)
low_or_high (suc m) (suc n) = by (low_or_high m n)
  where
    by : (m < n) ⊎ (n ≤ m) → (suc m < suc n) ⊎ (suc n ≤ suc m)
    by (inl l) = inl (omega (arith, l))
    by (inr l) = inr (omega (arith, l))

pub get_within : (xs : List ℕ) (k x : ℕ) → slice_get xs k ≡ Some x → k < length xs
get_within [] k x e = absurd cc
get_within (y ∷ xs) zero x e = omega arith
get_within (y ∷ xs) (suc k) x e = let h = get_within xs k x e in omega (arith, h)

pub get_past : (xs : List ℕ) (k : ℕ) → slice_get xs k ≡ None → length xs ≤ k
get_past [] k e = omega arith
get_past (y ∷ xs) zero e = absurd cc
get_past (y ∷ xs) (suc k) e = let h = get_past xs k e in omega (arith, h)

next_of : (xs : List ℕ) (k x : ℕ) → slice_get xs k ≡ Some x → drop k xs ≡ x ∷ drop (k + 1) xs
next_of xs k x e = drop_more xs k x (get_within xs k x e) ∙ ap (λ (y : ℕ). y ∷ drop (k + 1) xs) (get_or_from_slice_get xs k x x e)

drop_long : (xs : List ℕ) (k : ℕ) → length xs ≤ k → drop k xs ≡ []
drop_long [] zero l = refl
drop_long [] (suc k) l = refl
drop_long (x ∷ xs) zero l = absurd (omega (arith, l))
drop_long (x ∷ xs) (suc k) l = drop_long xs k (omega (arith, l))

none_of : (xs : List ℕ) (k : ℕ) → slice_get xs k ≡ None → drop (k + 1) xs ≡ drop k xs
none_of xs k e = let l = get_past xs k e in drop_long xs (k + 1) (omega (arith, l)) ∙ sym (drop_long xs k l)

pub all_on : (test : ℕ → Bool) (xs : List ℕ) (k x : ℕ) → slice_get xs k ≡ Some x → test x ≡ true → list_all test (drop (k + 1) xs) ≡ list_all test (drop k xs)
all_on test xs k x e h = sym (ap (list_all test) (next_of xs k x e) ∙ ap (λ b. b && list_all test (drop (k + 1) xs)) h)

pub all_off : (test : ℕ → Bool) (xs : List ℕ) (k x : ℕ) → slice_get xs k ≡ Some x → test x ≡ false → list_all test (drop k xs) ≡ false
all_off test xs k x e h = ap (list_all test) (next_of xs k x e) ∙ ap (λ b. b && list_all test (drop (k + 1) xs)) h

pub all_past : (test : ℕ → Bool) (xs : List ℕ) (k : ℕ) → slice_get xs k ≡ None → list_all test (drop (k + 1) xs) ≡ list_all test (drop k xs)
all_past test xs k e = ap (list_all test) (none_of xs k e)

pub among_on : (xs : List ℕ) (k t : ℕ) → is_written (slice_get xs k) t ≡ false → is_among (drop (k + 1) xs) t ≡ is_among (drop k xs) t
among_on xs k t h = by (slice_get xs k) refl
  where
    by : (o : Option ℕ) → slice_get xs k ≡ o → is_among (drop (k + 1) xs) t ≡ is_among (drop k xs) t
    by None e = ap (λ l. is_among l t) (none_of xs k e)
    by (Some x) e =
        let differ : (x == t) ≡ false = subst (λ (o : Option ℕ). is_written o t ≡ false) e h in
        sym (ap (λ l. is_among l t) (next_of xs k x e) ∙ ap (λ b. b || is_among (drop (k + 1) xs) t) differ)

pub among_here : (xs : List ℕ) (k t : ℕ) → is_written (slice_get xs k) t ≡ true → is_among (drop k xs) t ≡ true
among_here xs k t h = by (slice_get xs k) refl
  where
    by : (o : Option ℕ) → slice_get xs k ≡ o → is_among (drop k xs) t ≡ true
    by None e = let no_ : is_written None t ≡ true = subst (λ (o : Option ℕ). is_written o t ≡ true) e h in absurd cc
    by (Some x) e =
        let is : (x == t) ≡ true = subst (λ (o : Option ℕ). is_written o t ≡ true) e h in
        ap (λ l. is_among l t) (next_of xs k x e) ∙ ap (λ b. b || is_among (drop (k + 1) xs) t) is

-- ---- what comes next

next_in : (b : Bool) (o : Option ℕ) (n q : ℕ) → Contains ((if b then n ∷ [] else []) ++ option_to_list o) q → ((b ≡ true) × (n ≡ q)) ⊎ (o ≡ Some q)
next_in true None n q (zero, l, e) = inl (refl, e)
next_in true None n q (suc k, l, e) = absurd (omega (arith, l))
next_in true (Some x) n q (zero, l, e) = inl (refl, e)
next_in true (Some x) n q (suc zero, l, e) = inr (ap Some e)
next_in true (Some x) n q (suc (suc k), l, e) = absurd (omega (arith, l))
next_in false None n q c = absurd (none_in_empty q c)
next_in false (Some x) n q (zero, l, e) = inr (ap Some e)
next_in false (Some x) n q (suc k, l, e) = absurd (omega (arith, l))

on_in : (b : Bool) (o : Option ℕ) (n : ℕ) → b ≡ true → Contains ((if b then n ∷ [] else []) ++ option_to_list o) n
on_in true o n h = (0, omega arith, refl)
on_in false o n h = absurd cc

target_in : (b : Bool) (o : Option ℕ) (n q : ℕ) → o ≡ Some q → Contains ((if b then n ∷ [] else []) ++ option_to_list o) q
target_in b None n q e = absurd cc
target_in true (Some x) n q e = let is : x ≡ q = cc in (1, omega arith, is)
target_in false (Some x) n q e = let is : x ≡ q = cc in (0, omega arith, is)

-- the instruction behind it, or its target
pub next_is : (i : InstructionTree) (p q : ℕ) → Contains (nexts i p) q → ((goes_on i ≡ true) × (p + 1 ≡ q)) ⊎ (target i ≡ Some q)
next_is i p q = next_in (goes_on i) (target i) (p + 1) q

pub next_on : (i : InstructionTree) (p : ℕ) → goes_on i ≡ true → Contains (nexts i p) (p + 1)
next_on i p = on_in (goes_on i) (target i) (p + 1)

pub next_target : (i : InstructionTree) (p q : ℕ) → target i ≡ Some q → Contains (nexts i p) q
next_target i p q = target_in (goes_on i) (target i) (p + 1) q
