-- main has few parameters: as many in core as in the source.
use Rattle.std.proofs.Common.{◌≡◌, ◌≤◌, ℕ, zero, suc, Bool, true, false, List, [], ◌∷◌, length, Some, subst, arith, if◌then◌else◌}
use Rattle.std.specs.List.{slice_get}
use Rattle.std.proofs.lemmas.Option.{same_Some}
use Rattle.qs_base.specs.Parameters.{most_main_parameters}
use Rattle.qs_types.proofs.LimitLaws.{keeps_limits}
use Rattle.qs_core.specs.Trees.{CoreUnitTree}
use Rattle.qs_core.specs.Interfaces.{parameter_types, types_of_main, main_types}
use Rattle.qs_meaning.specs.Typed.{Function}
use Rattle.qs_meaning.proofs.Options.{never, nothing}
use Rattle.qs_elaborate_bodies.specs.Names.{FunctionNames, names_in}
use Rattle.qs_elaborate_bodies.specs.Units.{function_core, no_names, functions_core}
use Rattle.qs_elaborate_laws.proofs.WordFunctions.{named_length}
use Rattle.qs_elaborate_limits.specs.Laws.{MainParametersAreFew}
use Rattle.qs_elaborate_limits.specs.Measures.{highest}
use Rattle.qs_elaborate_limits.proofs.UnitHeights.{main_parameters_of, typed_units_are_low}
use Rattle.qs_elaborate_limits.proofs.MostHeld.{types_few}
use Rattle.qs_elaborate_limits.proofs.CoreUnits.{made}
use Rattle.qs_elaborate_limits.proofs.MainReturns.{main_at, at_place}

-- ---- in the typed tree

if_marked : (b : Bool) (n : ℕ) → b ≡ true → n ≤ (if b then n else 0)
if_marked true n e = omega arith
if_marked false n e = never e

main_low : (gs : List Function) (place : ℕ) (g : Function) → slice_get gs place ≡ Some g → g.is_main ≡ true → length g.parameters ≤ highest main_parameters_of gs
main_low [] place g at is = nothing g at
main_low (f ∷ gs) zero g at is =
    let few = if_marked g.is_main (length g.parameters) is in
    let most = subst (λ (z : Function). main_parameters_of z ≤ highest main_parameters_of (f ∷ gs)) (same_Some f g at) (omega arith) in
    omega (arith, few, most)
main_low (f ∷ gs) (suc place) g at is = let rest = main_low gs place g at is in omega (arith, rest)

-- ---- and in core

function_few : (names : FunctionNames) (f g : Function) → f ≡ g → length (parameter_types (function_core names f)) ≤ length g.parameters
function_few names f g e =
    let few = types_few (function_core names f).parameters (function_core names f).variables in
    let number = named_length names.parameters f.parameters in
    subst (λ (z : Function). length (parameter_types (function_core names f)) ≤ length z.parameters) e (omega (arith, few, number))

main_few :
    (names : List FunctionNames) (gs : List Function) (place : ℕ) (g : Function) → slice_get gs place ≡ Some g
    → length (types_of_main (slice_get (functions_core names gs) place)) ≤ length g.parameters
main_few names [] place g at = nothing g at
main_few [] (f ∷ gs) zero g at = function_few no_names f g (same_Some f g at)
main_few [] (f ∷ gs) (suc place) g at = main_few [] gs place g at
main_few (n ∷ names) (f ∷ gs) zero g at = function_few n f g (same_Some f g at)
main_few (n ∷ names) (f ∷ gs) (suc place) g at = main_few names gs place g at

pub main_parameters_are_few : MainParametersAreFew
main_parameters_are_few unit core read well limits q =
    let m = made unit core q in
    let main = main_at 0 m.main m.typed.functions m.at in
    let there = at_place m.typed.functions m.main main.number main.main main.place main.there in
    let few = main_few (names_in unit) m.typed.functions m.main main.main there in
    let low = main_low m.typed.functions m.main main.main there main.marked in
    let most = (typed_units_are_low unit m.typed m.tree).main_parameters in
    let limit = (keeps_limits unit read limits).main_parameters in
    subst (λ (u : CoreUnitTree). length (main_types u) ≤ most_main_parameters) m.is (omega (arith, few, low, most, limit))
