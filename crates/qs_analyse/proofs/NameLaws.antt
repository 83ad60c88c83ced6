-- The names of the functions of a unit differ.
use Rattle.std.proofs.Common.{◌≡◌, ℕ, zero, suc, ◌<◌, ◌==◌, true, List, [], ◌∷◌, length, get_or, map, refl, sym, ap, ◌∙◌, arith}
use Rattle.std.specs.Prelude.{bytes_eq, not}
use Rattle.std.specs.List.{list_all}
use Rattle.std.proofs.lemmas.Bool.{both_ways, and_parts, and_from, eq-eqb, not-true}
use Rattle.qs_assert.specs.Bounds.{same_name}
use Rattle.qs_assert.proofs.SamenessLaws.{name_equal}
use Rattle.qs_core.specs.Fits.{differ, unit_fits}
use Rattle.qs_core.specs.Trees.{CoreFunctionTree, CoreUnitTree}
use Rattle.qs_core.specs.FunctionNames.{function_name}
use Rattle.qs_core.proofs.FitLaws.{unit_parts}
use Rattle.qs_triples.proofs.FunctionNames.{name_at, all_at, count_names}

pub same_self : (n : List ℕ) → same_name n n ≡ true
same_self [] = refl
same_self (x ∷ xs) = and_from (x == x) (same_name xs xs) (eq-eqb x x refl) (same_self xs)

first_only : (n : List ℕ) (names : List (List ℕ)) (j : ℕ) → list_all (λ y. not (bytes_eq n y)) names ≡ true → j < length names → n ≡ get_or names j [] → ⊥
first_only n names j all b e =
    both_ways (bytes_eq n (get_or names j [])) (not-true (bytes_eq n (get_or names j [])) (all_at (λ y. not (bytes_eq n y)) names j all b)) (ap (bytes_eq n) (sym e) ∙ same_self n)

differ_at : (names : List (List ℕ)) (i j : ℕ) → differ bytes_eq names ≡ true → i < length names → j < length names → get_or names i [] ≡ get_or names j [] → i ≡ j
differ_at [] i j d b c e = absurd (omega (arith, b))
differ_at (n ∷ names) zero zero d b c e = refl
differ_at (n ∷ names) zero (suc j) d b c e = absurd (first_only n names j (and_parts (list_all (λ y. not (bytes_eq n y)) names) (differ bytes_eq names) d).0 (omega (arith, c)) e)
differ_at (n ∷ names) (suc i) zero d b c e = absurd (first_only n names i (and_parts (list_all (λ y. not (bytes_eq n y)) names) (differ bytes_eq names) d).0 (omega (arith, b)) (sym e))
differ_at (n ∷ names) (suc i) (suc j) d b c e = ap suc (differ_at names i j (and_parts (list_all (λ y. not (bytes_eq n y)) names) (differ bytes_eq names) d).1 (omega (arith, b)) (omega (arith, c)) e)

pub one_name : (u : CoreUnitTree) (f g : ℕ) → unit_fits u ≡ true → f < length u.functions → g < length u.functions → same_name (function_name u f) (function_name u g) ≡ true → f ≡ g
one_name u f g fits b c same =
    let l = count_names u.functions in
    differ_at (map (λ (f : CoreFunctionTree). f.name) u.functions) f g (unit_parts u fits).different (omega (arith, b, l)) (omega (arith, c, l))
    (sym (name_at u.functions f b) ∙ name_equal (function_name u f) (function_name u g) same ∙ name_at u.functions g c)
