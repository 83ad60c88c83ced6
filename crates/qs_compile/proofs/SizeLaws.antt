-- What a unit keeps to for which code is selected.
use Rattle.std.proofs.Common.{◌≡◌, ℕ, zero, suc, ◌<◌, ◌≤◌, List, [], ◌∷◌, length, map, None, ◌∙◌, arith}
use Rattle.std.specs.Prelude.{slice_index_or, All}
use Rattle.std.proofs.lemmas.List.{length-map}
use Rattle.qs_core.specs.Trees.{CoreFunctionTree, CoreParameterTree, CoreUnitTree}
use Rattle.qs_tac.specs.Trees.{TacUnitTree}
use Rattle.qs_tac.specs.Places.{PlacesTree}
use Rattle.qs_lower_expressions.specs.Threads.{threaded_function}
use Rattle.qs_lower.specs.Units.{straight_function}
use Rattle.qs_emit_selection.specs.Limits.{first_fault}
use Rattle.qs_machine.specs.State.{stack_limit}
use Rattle.qs_emit.specs.Relation.{no_function, cost_at}
use Rattle.qs_emit.proofs.EmissionLaws.{free}
use Rattle.qs_compile.specs.Units.{linear, most_parameters}
use Rattle.qs_compile.specs.Records.{FramesFit}

-- ---- selection

pub frames_fit : (t : TacUnitTree) (ps : List PlacesTree) → first_fault t ps ≡ None → FramesFit t.functions ps
frames_fit t ps none = record { each = λ f lt. (free t ps none f lt).cost }

-- ---- the unit

same_parameters :
    (cs : List CoreFunctionTree) (f : ℕ) (d : CoreFunctionTree) → f < length cs
    → length (slice_index_or (map threaded_function (map straight_function cs)) f no_function).parameters ≡ length (slice_index_or cs f d).parameters
same_parameters [] f d lt = absurd (omega (arith, lt))
same_parameters (c ∷ cs) zero d lt = length-map c.parameters (λ (p : CoreParameterTree). p.place)
same_parameters (c ∷ cs) (suc f) d lt = same_parameters cs f d (omega (arith, lt))

pub function_count : (u : CoreUnitTree) → length (linear u).functions ≡ length u.functions
function_count u = length-map (map straight_function u.functions) threaded_function ∙ length-map u.functions straight_function

pub few_parameters : (u : CoreUnitTree) (ps : List PlacesTree) → first_fault (linear u) ps ≡ None → All (λ (f : CoreFunctionTree). length f.parameters ≤ most_parameters) u.functions
few_parameters u ps none f d lt =
    let count = function_count u in
    let few = (free (linear u) ps none f (omega (arith, lt, count))).parameters in
    let same = same_parameters u.functions f d lt in
    omega (arith, few, same)

pub small_frame : (u : CoreUnitTree) (ps : List PlacesTree) → first_fault (linear u) ps ≡ None → (f : ℕ) → f < length u.functions → cost_at (linear u) ps f ≤ stack_limit
small_frame u ps none f lt = let count = function_count u in (free (linear u) ps none f (omega (arith, lt, count))).cost
