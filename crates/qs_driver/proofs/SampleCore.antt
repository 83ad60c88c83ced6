-- The core of a unit of a sample's form, and which functions call which: each calls the one before it.
use Rattle.std.proofs.Common.{◌≡◌, ℕ, zero, suc, ◌+◌, ◌<◌, ◌≤◌, ◌==◌, ◌||◌, true, false, List, [], ◌∷◌, ◌++◌, Option, Some, None, refl, ap, sym, ◌∙◌, arith}
use Rattle.std.proofs.lemmas.Bool.Decides.{nat_tests}
use Rattle.std.specs.List.{slice_get, list_any}
use Rattle.qs_syntax.specs.Trees.{UnitTree}
use Rattle.qs_memory.specs.Partial.{◌>>=◌}
use Rattle.qs_core.specs.CallGraph.{all_callees, callees_of, HasCall, IsChain, IsWithoutRecursion}
use Rattle.qs_core.specs.Trees.{stmts_of, CoreUnitTree}
use Rattle.qs_meaning.specs.Typed.{Function, TypedProgram}
use Rattle.qs_meaning.specs.Runs.{main_from}
use Rattle.qs_elaborate_bodies.specs.Names.{FunctionNames, names_in}
use Rattle.qs_elaborate_bodies.specs.Units.{body_core, end_of_body, functions_core, unit_core, core_of}
use Rattle.qs_driver_session.proofs.SampleTrees.{IsTail}
use Rattle.qs_driver_session.proofs.SampleMeaning.{typed_tail, sample_typed, unit_is_typed}

-- ---- the core

main_is_at : (k j left : ℕ) → main_from k (typed_tail j left) ≡ Some (k + left)
main_is_at k j zero = ap Some (omega arith)
main_is_at k j (suc left) = main_is_at (k + 1) (suc j) left ∙ ap Some (omega arith)

abbrev pub core_by : List FunctionNames → ℕ → CoreUnitTree
core_by names n = unit_core names (sample_typed n) n

pub core_is : (n : ℕ) (unit : UnitTree) → 1 ≤ n → n < 512 → IsTail 0 n unit → core_of unit ≡ Some (core_by (names_in unit) n)
core_is n unit l h t =
    let at : main_from 0 (typed_tail 0 n) ≡ Some n = main_is_at 0 0 n ∙ ap Some (omega arith) in
    ap (λ (o : Option TypedProgram). o >>= λ (u : TypedProgram). main_from 0 u.functions >>= λ main. Some (unit_core (names_in unit) u main)) (unit_is_typed n unit l h t)
    ∙ ap (λ (o : Option ℕ). o >>= λ main. Some (unit_core (names_in unit) (sample_typed n) main)) at

-- ---- calls

-- the functions that a typed function calls in core
abbrev callees_in : Option Function → List ℕ
callees_in None = []
callees_in (Some g) = all_callees (stmts_of ((body_core g).statements ++ end_of_body g.is_main))

callees_are : (names : List FunctionNames) (gs : List Function) (f : ℕ) → callees_of (slice_get (functions_core names gs) f) ≡ callees_in (slice_get gs f)
callees_are names [] f = refl
callees_are [] (g ∷ gs) zero = refl
callees_are [] (g ∷ gs) (suc f) = callees_are [] gs f
callees_are (n ∷ names) (g ∷ gs) zero = refl
callees_are (n ∷ names) (g ∷ gs) (suc f) = callees_are names gs f

only_one : (m g : ℕ) → ((m == g) || false) ≡ true → m ≡ g
only_one m g h = grind (arith, nat_tests)

calls_before : (j left f g : ℕ) → 1 ≤ j + left → list_any (λ h. h == g) (callees_in (slice_get (typed_tail j left) f)) ≡ true → suc g ≡ j + f
calls_before zero zero zero g l h = absurd (omega arith)
calls_before (suc j) zero zero g l h = let one : j ≡ g = only_one j g h in omega arith
calls_before j zero (suc f) g l h = cc
calls_before zero (suc left) zero g l h = cc
calls_before (suc j) (suc left) zero g l h = let one : j ≡ g = only_one j g h in omega arith
calls_before j (suc left) (suc f) g l h = let behind : suc g ≡ suc j + f = calls_before (suc j) left f g (omega arith) h in omega arith

pub calls_the_one_before : (names : List FunctionNames) (n f g : ℕ) → 1 ≤ n → HasCall (core_by names n) f g → suc g ≡ f
calls_the_one_before names n f g l h =
    let calls : list_any (λ k. k == g) (callees_in (slice_get (typed_tail 0 n) f)) ≡ true =
    ap (list_any (λ k. k == g)) (sym (callees_are names (typed_tail 0 n) f)) ∙ h in
    let before : suc g ≡ 0 + f = calls_before 0 n f g (omega arith) calls in
    omega arith

chain_falls : (names : List FunctionNames) (n : ℕ) (fs : List ℕ) (f last : ℕ) → 1 ≤ n → IsChain (core_by names n) (f ∷ fs) last → last < f
chain_falls names n [] f last l c = let e : suc last ≡ f = calls_the_one_before names n f last l c in omega arith
chain_falls names n (g ∷ fs) f last l c =
    let e : suc g ≡ f = calls_the_one_before names n f g l c.0 in
    let behind : last < g = chain_falls names n fs g last l c.1 in
    omega arith

pub is_without_recursion : (names : List FunctionNames) (n : ℕ) → 1 ≤ n → IsWithoutRecursion (core_by names n)
is_without_recursion names n l [] c = c
is_without_recursion names n l (f ∷ fs) c = let less : f < f = chain_falls names n fs f f l c in omega arith
