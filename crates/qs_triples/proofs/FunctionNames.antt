-- The names of functions, one after another.
use Rattle.std.proofs.Common.{◌≡◌, ℕ, zero, suc, ◌<◌, Bool, true, List, [], ◌∷◌, length, get_or, map, refl, ap, arith}
use Rattle.std.specs.List.{slice_get, list_all}
use Rattle.std.proofs.lemmas.Bool.{and_parts}
use Rattle.qs_core.specs.Trees.{CoreFunctionTree}
use Rattle.qs_core.specs.FunctionNames.{name_in}

pub name_at : (fs : List CoreFunctionTree) (f : ℕ) → f < length fs → name_in (slice_get fs f) ≡ get_or (map (λ (f : CoreFunctionTree). f.name) fs) f []
name_at [] f b = absurd (omega (arith, b))
name_at (x ∷ fs) zero b = refl
name_at (x ∷ fs) (suc f) b = name_at fs f (omega (arith, b))

pub all_at : (test : List ℕ → Bool) (names : List (List ℕ)) (i : ℕ) → list_all test names ≡ true → i < length names → test (get_or names i []) ≡ true
all_at test [] i all b = absurd (omega (arith, b))
all_at test (n ∷ names) zero all b = (and_parts (test n) (list_all test names) all).0
all_at test (n ∷ names) (suc i) all b = all_at test names i (and_parts (test n) (list_all test names) all).1 (omega (arith, b))

pub count_names : (fs : List CoreFunctionTree) → length (map (λ (f : CoreFunctionTree). f.name) fs) ≡ length fs
count_names [] = refl
count_names (f ∷ fs) = ap suc (count_names fs)
