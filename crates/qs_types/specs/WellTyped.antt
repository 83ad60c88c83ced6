-- When a unit is well typed: no node breaks a rule, `main` has a body, and each function that is called has one, below `sizeof` too.
use Rattle.std.specs.Prelude.{◌≡◌, ℕ, Bool, true, false, not, ◌&&◌, List, [], ◌∷◌, Option, Some, None, if◌then◌else◌}
use Rattle.qs_syntax.specs.Trees.{structure, forward, typedef, function, variables, UnitTree}
use Rattle.qs_types.specs.Contexts.{Entity, local_variable, file_variable, given, Context, start_context, entity_of}
use Rattle.qs_types.specs.Contexts as contexts
use Rattle.qs_types.specs.GivenFunctions.{main_name}
use Rattle.qs_types.specs.UnitRules.{is_name_in, faults_in, context_after}
use Rattle.qs_types.specs.References.{unit_calls}

-- ---- bodies

abbrev pub entity_has_body : Option Entity → Bool
entity_has_body None = false
entity_has_body (Some (local_variable node t)) = false
entity_has_body (Some (file_variable node t)) = false
entity_has_body (Some (contexts.function node signature body)) = body
entity_has_body (Some (given signature)) = false

-- putchar and getchar need none
abbrev pub entity_runs : Option Entity → Bool
entity_runs None = false
entity_runs (Some (local_variable node t)) = false
entity_runs (Some (file_variable node t)) = false
entity_runs (Some (contexts.function node signature body)) = body
entity_runs (Some (given signature)) = true

-- what is known at the end of the unit
abbrev pub end_context : UnitTree → Context
end_context unit = context_after start_context unit

abbrev pub has_main : UnitTree → Bool
has_main unit = entity_has_body (entity_of (end_context unit) main_name)

abbrev pub runs : UnitTree → List ℕ → Bool
runs unit f = entity_runs (entity_of (end_context unit) f)

-- the first header of a function that is called and doesn't run
abbrev pub undefined_from : (runs : List ℕ → Bool) → (called : List (List ℕ)) → UnitTree → Option ℕ
undefined_from runs called [] = None
undefined_from runs called (structure s ∷ ds) = undefined_from runs called ds
undefined_from runs called (forward f ∷ ds) = undefined_from runs called ds
undefined_from runs called (typedef t ∷ ds) = undefined_from runs called ds
undefined_from runs called (function f ∷ ds) =
    if is_name_in f.name called && not (runs f.name) then Some f.node.id else undefined_from runs called ds
undefined_from runs called (variables d ∷ ds) = undefined_from runs called ds

-- the first declaration of a function that is called and has no body, by the number of its node
abbrev pub first_undefined : UnitTree → Option ℕ
first_undefined unit = undefined_from (runs unit) (unit_calls unit) unit

pub record WellTyped (unit : UnitTree) : Type 0 where
  pub keeps_rules : faults_in unit ≡ []
  pub main_has_body : has_main unit ≡ true
  pub calls_have_bodies : first_undefined unit ≡ None
