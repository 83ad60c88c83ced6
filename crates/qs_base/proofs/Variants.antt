-- Enums without fields, and tables of their variants: a test that computes to true on the list of all variants holds of each.
use Rattle.std.proofs.Common.{◌≡◌, ℕ, ◌+◌, suc, Bool, true, false, ◌&&◌, cond, List, [], ◌∷◌, Option, Some, None, refl, ap, sym, ◌∙◌, inl, inr, ◌==◌, arith, Decides, eqb-true}
use Rattle.std.specs.Cmp.{first_so, second_so}
use Rattle.std.specs.List.{find, list_all}
use denote.Enum.Bare.{Bare, sameb, same_true, tag_one, true_same}
use denote.Enum.Declared.{Declared, rowss, tag_of}
use denote.Enum.Enum.{Sum, tag}
use denote.Struct.Field.{Field}

-- the list has the variants from this one on, in order
abbrev pub lists_from : (D : Declared) → ℕ → List (List Field) → List D.D → Bool
lists_from D at [] [] = true
lists_from D at [] (x ∷ xs) = false
lists_from D at (Fs ∷ Fss) [] = false
lists_from D at (Fs ∷ Fss) (x ∷ xs) = tag_of D x == at && lists_from D (suc at) Fss xs

-- the list has all variants, in order
abbrev pub lists_all : (D : Declared) → List D.D → Bool
lists_all D xs = lists_from D 0 D.parts xs

every_from : (D : Declared) → Bare D.parts → (test : D.D → Bool) (at : ℕ) (Fss : List (List Field)) (xs : List D.D) → lists_from D at Fss xs ≡ true → list_all test xs ≡ true
    → (k : D.D) (s : Sum (rowss Fss)) → tag_of D k ≡ at + tag (rowss Fss) s → test k ≡ true
every_from D bare test at [] xs f h k s e = absurd s
every_from D bare test at (Fs ∷ Fss) [] f h k s e = cc
every_from D bare test at (Fs ∷ Fss) (x ∷ xs) f h k (inl v) e =
    let n : tag_of D x ≡ at = eqb-true (tag_of D x) at (first_so (tag_of D x == at) (lists_from D (suc at) Fss xs) f) in
    let m : tag_of D x ≡ tag_of D k = omega arith in
    sym (ap test (tag_one D bare x k m)) ∙ first_so (test x) (list_all test xs) h
every_from D bare test at (Fs ∷ Fss) (x ∷ xs) f h k (inr s) e =
    let m : tag_of D k ≡ suc at + tag (rowss Fss) s = omega arith in
    every_from D bare test (suc at) Fss xs (second_so (tag_of D x == at) (lists_from D (suc at) Fss xs) f) (second_so (test x) (list_all test xs) h) k s m

pub every : (D : Declared) → Bare D.parts → (xs : List D.D) → lists_all D xs ≡ true → (test : D.D → Bool) → list_all test xs ≡ true → (k : D.D) → test k ≡ true
every D bare xs f test h k = let e : tag_of D k ≡ 0 + tag_of D k = omega arith in every_from D bare test 0 D.parts xs f h k (D.to k) e

-- the test of two variants' numbers decides whether they are the same
pub variants_exact : (D : Declared) → Bare D.parts → (a b : D.D) → Decides (sameb D a b) (a ≡ b)
variants_exact D bare a b = (same_true D bare a b, true_same D a b)

-- this variant was found
abbrev pub is_found : (D : Declared) → D.D → Option D.D → Bool
is_found D k None = false
is_found D k (Some x) = sameb D x k

found : (D : Declared) → Bare D.parts → (k : D.D) (o : Option D.D) → is_found D k o ≡ true → o ≡ Some k
found D bare k None h = cc
found D bare k (Some x) h = ap Some (same_true D bare x k h)

-- each variant is found by its own key, if no two have the same
pub finds : (D : Declared) → Bare D.parts → (xs : List D.D) → lists_all D xs ≡ true → (has_key_of : D.D → D.D → Bool) → list_all (λ k. is_found D k (find (has_key_of k) xs)) xs ≡ true
    → (k : D.D) → find (has_key_of k) xs ≡ Some k
finds D bare xs f has_key_of h k = found D bare k (find (has_key_of k) xs) (every D bare xs f (λ k. is_found D k (find (has_key_of k) xs)) h k)

-- what is found has the key
pub find_passes : {A : Type 0} (test : A → Bool) (xs : List A) (x : A) → find test xs ≡ Some x → test x ≡ true
find_passes test [] x e = cc
find_passes test (y ∷ ys) x e = by (test y) refl e (find_passes test ys x)
  where
    by : (b : Bool) → test y ≡ b → cond b (Some y) (find test ys) ≡ Some x → (find test ys ≡ Some x → test x ≡ true) → test x ≡ true
    by true t e go = let same : y ≡ x = cc in sym (ap test same) ∙ t
    by false t e go = go e
