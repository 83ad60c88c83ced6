-- The names of a unit's functions.
use Rattle.std.specs.Prelude.{ℕ, List, [], Option, Some, None}
use Rattle.std.specs.List.{slice_get}
use Rattle.qs_core.specs.Trees.{CoreFunctionTree, CoreUnitTree}

-- what stands at a number that no function has; it is never met
abbrev pub name_in : Option CoreFunctionTree → List ℕ
name_in None = []
name_in (Some f) = f.name

abbrev pub function_name : CoreUnitTree → ℕ → List ℕ
function_name u f = name_in (slice_get u.functions f)
