-- The functions of a unit with a body are no more than the names in its headers.
use Rattle.std.proofs.Common.{◌≡◌, ◌≤◌, ℕ, suc, Bool, true, false, not, ◌&&◌, ◌||◌, List, [], ◌∷◌, ◌++◌, Option, Some, None, length, refl, sym, ap, ◌∙◌, arith, if◌then◌else◌}
use Rattle.std.specs.Prelude.{bytes_eq}
use Rattle.std.specs.List.{list_all}
use Rattle.std.proofs.lemmas.Slice.Eq.{bytes_eq-Decides}
use Rattle.std.proofs.lemmas.List.Folds.{list_any-append}
use Rattle.std.proofs.lemmas.Bool.{and_parts, or_right}
use Rattle.qs_base.specs.Bytes.{same_bytes}
use Rattle.qs_base.proofs.ByteLaws.{bytes_exact}
use Rattle.qs_syntax.specs.Trees.{Stmts, structure, forward, function, variables, UnitTree, typedef}
use Rattle.qs_types.specs.Contexts.{start_context}
use Rattle.qs_types.specs.UnitRules.{is_name_in, with_name_once}
use Rattle.qs_types.specs.Limits.{names_from, function_count}
use Rattle.qs_types.specs.WellTyped.{WellTyped}
use Rattle.qs_core.specs.Fits.{differ}
use Rattle.qs_meaning.specs.Units.{name_with_body, functions_in, start_scope}
use Rattle.qs_meaning.proofs.Options.{never}
use Rattle.qs_meaning.proofs.UnitsTyped.{start_known}
use Rattle.qs_elaborate_laws.proofs.FitRules.{bodies_differ}

-- ---- different names among names

-- the names without this one
abbrev without : List ℕ → List (List ℕ) → List (List ℕ)
without x [] = []
without x (n ∷ names) = if same_bytes x n then names else n ∷ without x names

one_less : (x : List ℕ) (names : List (List ℕ)) → is_name_in x names ≡ true → length names ≡ suc (length (without x names))
one_less x [] h = never h
one_less x (n ∷ names) h = by (same_bytes x n) h (one_less x names)
  where
    by : (b : Bool) → (b || is_name_in x names) ≡ true → (is_name_in x names ≡ true → length names ≡ suc (length (without x names)))
        → length (n ∷ names) ≡ suc (length (if b then names else n ∷ without x names))
    by true h rest = omega arith
    by false h rest = let e = rest h in omega arith

still_in : (x y : List ℕ) (names : List (List ℕ)) → bytes_eq x y ≡ false → is_name_in y names ≡ true → is_name_in y (without x names) ≡ true
still_in x y [] other h = h
still_in x y (n ∷ names) other h = by (same_bytes x n) (same_bytes y n) refl refl h (still_in x y names other)
  where
    apart : same_bytes x n ≡ true → same_bytes y n ≡ true → bytes_eq x y ≡ true
    apart e f = (bytes_eq-Decides x y).1 ((bytes_exact x n).0 e ∙ sym ((bytes_exact y n).0 f))

    by : (b c : Bool) → same_bytes x n ≡ b → same_bytes y n ≡ c → (c || is_name_in y names) ≡ true
        → (is_name_in y names ≡ true → is_name_in y (without x names) ≡ true) → is_name_in y (if b then names else n ∷ without x names) ≡ true
    by true true e f h rest = never (sym other ∙ apart e f)
    by true false e f h rest = h
    by false true e f h rest = ap (λ z. z || is_name_in y (without x names)) f
    by false false e f h rest = or_right (same_bytes y n) (is_name_in y (without x names)) (rest h)

all_still_in :
    (x : List ℕ) (names xs : List (List ℕ)) → list_all (λ y. not (bytes_eq x y)) xs ≡ true → list_all (λ y. is_name_in y names) xs ≡ true
    → list_all (λ y. is_name_in y (without x names)) xs ≡ true
all_still_in x names [] others h = refl
all_still_in x names (y ∷ xs) others h =
    let apart = and_parts (not (bytes_eq x y)) (list_all (λ y. not (bytes_eq x y)) xs) others in
    let two = and_parts (is_name_in y names) (list_all (λ y. is_name_in y names) xs) h in
    together (still_in x y names (no_test (bytes_eq x y) apart.0) two.0) (all_still_in x names xs apart.1 two.1)
  where
    no_test : (b : Bool) → not b ≡ true → b ≡ false
    no_test true h = sym h
    no_test false h = refl

    together : {a b : Bool} → a ≡ true → b ≡ true → (a && b) ≡ true
    together {a = a} {b = b} e f = ap (λ z. z && b) e ∙ f

no_more : (xs names : List (List ℕ)) → differ bytes_eq xs ≡ true → list_all (λ y. is_name_in y names) xs ≡ true → length xs ≤ length names
no_more [] names apart h = omega arith
no_more (x ∷ xs) names apart h =
    let others = and_parts (list_all (λ y. not (bytes_eq x y)) xs) (differ bytes_eq xs) apart in
    let two = and_parts (is_name_in x names) (list_all (λ y. is_name_in y names) xs) h in
    let rest = no_more xs (without x names) others.1 (all_still_in x names xs others.0 two.1) in
    let one = one_less x names two.0 in
    omega arith

-- ---- the names in headers

name_kept : (x y : List ℕ) (names : List (List ℕ)) → is_name_in x names ≡ true → is_name_in x (with_name_once names y) ≡ true
name_kept x y names h = by (is_name_in y names)
  where
    by : (b : Bool) → is_name_in x (if b then names else names ++ y ∷ []) ≡ true
    by true = h
    by false = list_any-append (same_bytes x) names (y ∷ []) ∙ ap (λ z. z || is_name_in x (y ∷ [])) h

own_name : (x : List ℕ) (names : List (List ℕ)) → is_name_in x (with_name_once names x) ≡ true
own_name x names = by (is_name_in x names) refl
  where
    by : (b : Bool) → is_name_in x names ≡ b → is_name_in x (if b then names else names ++ x ∷ []) ≡ true
    by true e = e
    by false e =
        list_any-append (same_bytes x) names (x ∷ [])
        ∙ or_right (is_name_in x names) (is_name_in x (x ∷ [])) (ap (λ z. z || is_name_in x []) ((bytes_exact x x).1 refl))

stays : (x : List ℕ) (names : List (List ℕ)) (ds : UnitTree) → is_name_in x names ≡ true → is_name_in x (names_from names ds) ≡ true
stays x names [] h = h
stays x names (structure s ∷ ds) h = stays x names ds h
stays x names (forward f ∷ ds) h = stays x names ds h
stays x names (typedef f ∷ ds) h = stays x names ds h
stays x names (function f ∷ ds) h = stays x (with_name_once names f.name) ds (name_kept x f.name names h)
stays x names (variables d ∷ ds) h = stays x names ds h

bodies_named : (names : List (List ℕ)) (ds : UnitTree) → list_all (λ y. is_name_in y (names_from names ds)) (functions_in ds) ≡ true
bodies_named names [] = refl
bodies_named names (structure s ∷ ds) = bodies_named names ds
bodies_named names (forward f ∷ ds) = bodies_named names ds
bodies_named names (typedef f ∷ ds) = bodies_named names ds
bodies_named names (variables d ∷ ds) = bodies_named names ds
bodies_named names (function f ∷ ds) = by f.body (bodies_named (with_name_once names f.name) ds)
  where
    by : (o : Option Stmts) → list_all (λ y. is_name_in y (names_from (with_name_once names f.name) ds)) (functions_in ds) ≡ true
        → list_all (λ y. is_name_in y (names_from (with_name_once names f.name) ds)) (name_with_body f.name o ++ functions_in ds) ≡ true
    by None rest = rest
    by (Some body) rest =
        ap (λ z. z && list_all (λ y. is_name_in y (names_from (with_name_once names f.name) ds)) (functions_in ds))
        (stays f.name (with_name_once names f.name) ds (own_name f.name names))
        ∙ rest

pub bodies_are_few : (unit : UnitTree) → WellTyped unit → length (functions_in unit) ≤ function_count unit
bodies_are_few unit well =
    no_more (functions_in unit) (names_from [] unit) (bodies_differ (start_scope unit) unit start_context start_known well.keeps_rules).1 (bodies_named [] unit)
