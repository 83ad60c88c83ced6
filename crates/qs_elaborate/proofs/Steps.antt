-- A step along two lists, of which the first may be the shorter one.
use Rattle.std.proofs.Common.{◌≡◌, ℕ, ◌+◌, ◌<◌, List, [], ◌∷◌, length, get_or, drop, refl, ap, ◌∙◌, arith}
use Rattle.std.proofs.lemmas.List.{drop_more, drop-drop, get_or-drop}
use Rattle.qs_meaning.specs.Typed.{Function}
use Rattle.qs_elaborate_bodies.specs.Names.{FunctionNames}
use Rattle.qs_elaborate_bodies.specs.Units.{function_core, no_names, functions_core}

at_zero : (i : ℕ) → i + 0 ≡ i
at_zero i = omega arith

-- F takes the first of the second list with the first of the first one, or with a default
step : {A B C : Type 0} (d : A) (f : A → B → C) (F : List A → List B → List C)
    → ((xs : List A) (y : B) (ys : List B) → F xs (y ∷ ys) ≡ f (get_or xs 0 d) y ∷ F (drop 1 xs) ys)
    → (xs : List A) (ys : List B) (i : ℕ) (e : B) → i < length ys
    → F (drop i xs) (drop i ys) ≡ f (get_or xs i d) (get_or ys i e) ∷ F (drop (i + 1) xs) (drop (i + 1) ys)
step d f F p xs ys i e h =
    ap (F (drop i xs)) (drop_more ys i e h)
    ∙ p (drop i xs) (get_or ys i e) (drop (i + 1) ys)
    ∙ ap (λ x. f x (get_or ys i e) ∷ F (drop 1 (drop i xs)) (drop (i + 1) ys)) (get_or-drop i xs 0 d ∙ ap (λ k. get_or xs k d) (at_zero i))
    ∙ ap (λ l. f (get_or xs i d) (get_or ys i e) ∷ F l (drop (i + 1) ys)) (drop-drop 1 i xs)

functions_pair : (xs : List FunctionNames) (y : Function) (ys : List Function) → functions_core xs (y ∷ ys) ≡ function_core (get_or xs 0 no_names) y ∷ functions_core (drop 1 xs) ys
functions_pair [] y ys = refl
functions_pair (x ∷ xs) y ys = refl

pub functions_step : (xs : List FunctionNames) (ys : List Function) (i : ℕ) (e : Function) → i < length ys
    → functions_core (drop i xs) (drop i ys) ≡ function_core (get_or xs i no_names) (get_or ys i e) ∷ functions_core (drop (i + 1) xs) (drop (i + 1) ys)
functions_step xs ys i e h = step no_names function_core functions_core functions_pair xs ys i e h
