-- What the core of a unit is made of.
use Rattle.std.proofs.Common.{◌≡◌, ◌≤◌, ℕ, ◌+◌, ◌-◌, true, false, List, [], ◌∷◌, length, Some, refl, sym, ap, ◌∙◌, subst, arith}
use Rattle.std.specs.Prelude.{All}
use Rattle.std.specs.List.{list_all}
use Rattle.std.proofs.lemmas.List.Elements.{All-nil, All-cons}
use Rattle.std.proofs.lemmas.Bool.{and_parts}
use Rattle.std.proofs.lemmas.Option.{same_Some}
use Rattle.qs_base.specs.Parameters.{most_parameters}
use Rattle.qs_syntax.specs.Trees.{UnitTree}
use Rattle.qs_syntax.specs.Units.{height_limit, IsRead}
use Rattle.qs_memory.proofs.Options.{followed}
use Rattle.qs_types.specs.Limits.{function_limit, IsWithinLimits}
use Rattle.qs_types.specs.WellTyped.{WellTyped}
use Rattle.qs_types.proofs.LimitLaws.{keeps_limits}
use Rattle.qs_core.specs.Trees.{CoreFunctionTree, CoreUnitTree}
use Rattle.qs_core.specs.Sizes.{held_in_all, most_arguments_in}
use Rattle.qs_core.specs.Fits.{function_fits, unit_fits}
use Rattle.qs_core.proofs.FitLaws.{function_parts, unit_parts}
use Rattle.qs_meaning.specs.Typed.{Function, TypedProgram}
use Rattle.qs_meaning.specs.Units.{typed_of}
use Rattle.qs_meaning.specs.Runs.{main_from}
use Rattle.qs_elaborate_bodies.specs.Names.{FunctionNames, names_in}
use Rattle.qs_elaborate_bodies.specs.Units.{functions_core, unit_core, core_of}
use Rattle.qs_elaborate_laws.proofs.CountedUnits.{unit_counted, source_words_are_few}
use Rattle.qs_elaborate_laws.proofs.FitCore.{units_have_cores}
use Rattle.qs_elaborate_limits.specs.Laws.{nesting_limit, FunctionsAreFew, ParametersAreFew, ArgumentsAreFew, CodeIsSmall, HeldValuesAreFew, StatementsNestLittle}
use Rattle.qs_core.specs.Nesting.{functions_nesting}
use Rattle.qs_elaborate_limits.specs.Measures.{highest}
use Rattle.qs_elaborate_limits.proofs.NumberedHeights.{read_units_are_low}
use Rattle.qs_elaborate_limits.proofs.UnitHeights.{typed_units_are_low}
use Rattle.qs_elaborate_limits.proofs.MostHeld.{most_in_all, core_parameters, calls_few, body_few, body_arguments}
use Rattle.qs_elaborate_limits.proofs.HeldFunctions.{functions_few}
use Rattle.qs_elaborate_limits.proofs.NestedStatements.{functions_nest}
use Rattle.qs_elaborate_limits.proofs.FewNames.{bodies_are_few}

-- ---- its typed tree, its main and its functions

pub record Made (unit : UnitTree) (core : CoreUnitTree) : Type 0 where
  pub typed : TypedProgram
  pub tree : typed_of unit ≡ Some typed
  pub main : ℕ
  pub at : main_from 0 typed.functions ≡ Some main
  pub is : unit_core (names_in unit) typed main ≡ core

pub made : (unit : UnitTree) (core : CoreUnitTree) → core_of unit ≡ Some core → Made unit core
made unit core q =
    let u = followed (typed_of unit) _ core q in
    let main = followed (main_from 0 u.value.functions) _ core u.then in
    record { typed = u.value; tree = u.first; main = main.value; at = main.first; is = same_Some (unit_core (names_in unit) u.value main.value) core main.then }

pub functions_are : (unit : UnitTree) (core : CoreUnitTree) (m : Made unit core) → functions_core (names_in unit) m.typed.functions ≡ core.functions
functions_are unit core m = ap (λ (z : CoreUnitTree). z.functions) m.is

pub core_fits : (unit : UnitTree) (core : CoreUnitTree) → IsRead unit → WellTyped unit → IsWithinLimits unit → core_of unit ≡ Some core → unit_fits core ≡ true
core_fits unit core read well limits q =
    let has = units_have_cores unit read well limits in subst (λ z. unit_fits z ≡ true) (same_Some has.core core (sym has.is ∙ q)) has.fits

-- ---- how many functions, and their words

same_length : (names : List FunctionNames) (gs : List Function) → length (functions_core names gs) ≡ length gs
same_length names [] = refl
same_length [] (g ∷ gs) = let e = same_length [] gs in omega arith
same_length (f ∷ names) (g ∷ gs) = let e = same_length names gs in omega arith

pub functions_are_few : FunctionsAreFew
functions_are_few unit core read well limits q =
    let m = made unit core q in
    let few = bodies_are_few unit well in
    let limit = (keeps_limits unit read limits).functions in
    let counted = (unit_counted unit m.typed well m.tree).number in
    subst (λ fs. length fs ≤ function_limit) (functions_are unit core m) (omega (arith, few, limit, counted, same_length (names_in unit) m.typed.functions))

pub code_is_small : CodeIsSmall
code_is_small unit core read well limits q =
    let kept = keeps_limits unit read limits in
    omega (arith, source_words_are_few unit core well q, kept.nodes, kept.functions, bodies_are_few unit well)

-- ---- parameters and arguments

pub all_below : {A : Type 0} (of : A → ℕ) (n : ℕ) (xs : List A) → highest of xs ≤ n → All (λ x. of x ≤ n) xs
all_below of n [] h = All-nil (λ x. of x ≤ n)
all_below of n (x ∷ xs) h = All-cons (λ x. of x ≤ n) x xs (omega arith) (all_below of n xs (omega arith))

parameters_below : (unit : UnitTree) (core : CoreUnitTree) → IsRead unit → IsWithinLimits unit → (m : Made unit core) → highest core_parameters core.functions ≤ most_parameters
parameters_below unit core read limits m =
    let typed = typed_units_are_low unit m.typed m.tree in
    let cores = functions_few (names_in unit) m.typed.functions in
    let count = (keeps_limits unit read limits).parameters in
    subst (λ fs. highest core_parameters fs ≤ most_parameters) (functions_are unit core m) (omega (arith, typed.parameters, cores.parameters, count))

pub parameters_are_few : ParametersAreFew
parameters_are_few unit core read well limits q = all_below core_parameters most_parameters core.functions (parameters_below unit core read limits (made unit core q))

-- each argument but the last waits for the others
abbrev waiting_limit : ℕ
waiting_limit = most_parameters - 1

all_arguments :
    (u : CoreUnitTree) → highest core_parameters u.functions ≤ most_parameters
    → (fs : List CoreFunctionTree) → list_all (function_fits u) fs ≡ true → All (λ f. most_arguments_in f.body ≤ most_parameters) fs
all_arguments u most [] fit = All-nil (λ f. most_arguments_in f.body ≤ most_parameters)
all_arguments u most (f ∷ fs) fit =
    let two = and_parts (function_fits u f) (list_all (function_fits u) fs) fit in
    let h = body_arguments u waiting_limit (calls_few u waiting_limit most) f false false f.body (function_parts u f two.0).body in
    All-cons (λ f. most_arguments_in f.body ≤ most_parameters) f fs (omega arith) (all_arguments u most fs two.1)

pub arguments_are_few : ArgumentsAreFew
arguments_are_few unit core read well limits q =
    all_arguments core (parameters_below unit core read limits (made unit core q)) core.functions (unit_parts core (core_fits unit core read well limits q)).functions

-- ---- values that hold parts of expressions

all_held_few :
    (u : CoreUnitTree) (n : ℕ) → highest core_parameters u.functions ≤ most_parameters
    → (fs : List CoreFunctionTree) → list_all (function_fits u) fs ≡ true → highest (λ f. most_in_all f.body) fs ≤ n
    → All (λ f. held_in_all f.body ≤ n + waiting_limit) fs
all_held_few u n most [] fit low = All-nil (λ f. held_in_all f.body ≤ n + waiting_limit)
all_held_few u n most (f ∷ fs) fit low =
    let two = and_parts (function_fits u f) (list_all (function_fits u) fs) fit in
    let h = body_few u waiting_limit (omega arith) (calls_few u waiting_limit most) f false false f.body (function_parts u f two.0).body in
    All-cons (λ f. held_in_all f.body ≤ n + waiting_limit) f fs (omega arith) (all_held_few u n most fs two.1 (omega arith))

pub held_values_are_few : HeldValuesAreFew
held_values_are_few unit core read well limits q =
    let m = made unit core q in
    let typed = typed_units_are_low unit m.typed m.tree in
    let cores = functions_few (names_in unit) m.typed.functions in
    let height = read_units_are_low unit read in
    all_held_few core (1 + height_limit) (parameters_below unit core read limits m)
    core.functions (unit_parts core (core_fits unit core read well limits q)).functions
    (subst (λ fs. highest (λ f. most_in_all f.body) fs ≤ 1 + height_limit) (functions_are unit core m) (omega (arith, typed.bodies, cores.bodies, height)))

-- ---- how deep statements nest

pub statements_nest_little : StatementsNestLittle
statements_nest_little unit core read well limits q =
    let m = made unit core q in
    let typed = typed_units_are_low unit m.typed m.tree in
    let height = read_units_are_low unit read in
    subst (λ fs. functions_nesting fs ≤ nesting_limit) (functions_are unit core m) (omega (arith, typed.bodies, height, functions_nest (names_in unit) m.typed.functions))
