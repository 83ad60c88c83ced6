-- Why a unit is refused: the first cause of some, in their order.
use Rattle.std.specs.Prelude.{◌≡◌, ◌≤◌, ◌⊎◌, ℕ, Bool, false, List, ◌++◌, Option, Some, None, map, if◌then◌else◌}
use Rattle.std.specs.Option.{option_or}
use Rattle.qs_syntax.specs.Trees.{UnitTree}
use Rattle.qs_types.specs.declared.limits.LimitKind.{LimitKind}
use Rattle.qs_types.specs.declared.limits.LimitKind.TheVariants as kinds
use Rattle.qs_types.specs.declared.rules.Rule.{Rule}
use Rattle.qs_types.specs.Rules.{Fault, rule_number}
use Rattle.qs_types.specs.Limits.{IsWithinLimits, first_past_nodes, node_limit, first_past_functions, function_limit, first_past_parameters, parameter_limit, first_past_globals, global_limit, first_past_locals, local_limit, block_past, text_block}
use Rattle.qs_types.specs.UnitRules.{faults_in, Violates}
use Rattle.qs_types.specs.Contexts.{Context, entity_of}
use Rattle.qs_types.specs.GivenFunctions.{main_name}
use Rattle.qs_types.specs.WellTyped.{WellTyped, has_main, first_undefined, undefined_from, entity_runs, entity_has_body}
use Rattle.qs_typing_findings.specs.declared.type_fault.TypeFault.{TypeFault}
use Rattle.qs_typing_findings.specs.declared.type_fault.TypeFault.TheVariants as faults
use Rattle.qs_typing_findings.specs.Findings.{least_with}
use Rattle.qs_typing_findings.specs.UnitWalk.{WalkTree}

-- the node at which a count first passes its limit
abbrev pub limit_fault : LimitKind → Option ℕ → Option TypeFault
limit_fault kind None = None
limit_fault kind (Some node) = Some (faults.Limit kind node)

-- the least node that breaks a rule, and the least rule that it breaks
abbrev pub rule_fault : Option Fault → Option TypeFault
rule_fault None = None
rule_fault (Some f) = Some (faults.Rule f.node f.rule)

abbrev pub main_fault : (has_main : Bool) → Option TypeFault
main_fault b = if b then None else Some faults.NoMain

abbrev pub undefined_fault : Option ℕ → Option TypeFault
undefined_fault None = None
undefined_fault (Some node) = Some (faults.Undefined node)

-- before the rules are looked at
abbrev pub early_refusal : UnitTree → Option TypeFault
early_refusal unit =
    option_or (limit_fault kinds.Nodes (first_past_nodes node_limit unit))
    (option_or (limit_fault kinds.Functions (first_past_functions function_limit unit))
    (limit_fault kinds.Parameters (first_past_parameters parameter_limit unit)))

abbrev pub late_refusal : UnitTree → Option TypeFault
late_refusal unit =
    option_or (rule_fault (least_with None (faults_in unit)))
    (option_or (main_fault (has_main unit))
    (option_or (undefined_fault (first_undefined unit))
    (option_or (limit_fault kinds.Globals (first_past_globals global_limit unit))
    (limit_fault kinds.Locals (first_past_locals local_limit unit)))))

abbrev pub first_refusal : UnitTree → Option TypeFault
first_refusal unit = option_or (early_refusal unit) (late_refusal unit)

-- a node breaks a rule; no node of a lesser number breaks one, and this node none of a lesser number
pub record IsLeastViolation (unit : UnitTree) (node : ℕ) (rule : Rule) : Type 0 where
  pub violates : Violates unit node rule
  pub least_node : (n : ℕ) (r : Rule) → Violates unit n r → node ≤ n
  pub least_rule : (r : Rule) → Violates unit node r → rule_number rule ≤ rule_number r

-- the node at which the count of a kind first passes its limit
abbrev pub first_past : LimitKind → UnitTree → Option ℕ
first_past kinds.Nodes unit = first_past_nodes node_limit unit
first_past kinds.Functions unit = first_past_functions function_limit unit
first_past kinds.Parameters unit = first_past_parameters parameter_limit unit
first_past kinds.Globals unit = first_past_globals global_limit unit
first_past kinds.Locals unit = first_past_locals local_limit unit

-- there is this cause to refuse a unit
abbrev pub HasCause : UnitTree → TypeFault → Type 0
HasCause unit (faults.Rule node rule) = IsLeastViolation unit node rule
HasCause unit (faults.Limit kind node) = first_past kind unit ≡ Some node
HasCause unit faults.NoMain = has_main unit ≡ false
HasCause unit (faults.Undefined node) = first_undefined unit ≡ Some node
HasCause unit faults.NoMemory = ⊥

-- the places of causes in their order
abbrev pub limit_place : LimitKind → ℕ
limit_place kinds.Nodes = 0
limit_place kinds.Functions = 1
limit_place kinds.Parameters = 2
limit_place kinds.Globals = 6
limit_place kinds.Locals = 7

abbrev pub place_of : TypeFault → ℕ
place_of (faults.Limit kind node) = limit_place kind
place_of (faults.Rule node rule) = 3
place_of faults.NoMain = 4
place_of (faults.Undefined node) = 5
place_of faults.NoMemory = 8

-- a fault is the first cause to refuse a unit
pub record IsCause (unit : UnitTree) (f : TypeFault) : Type 0 where
  pub first : first_refusal unit ≡ Some f
  pub is_there : HasCause unit f
  pub none_before : (g : TypeFault) → HasCause unit g → place_of f ≤ place_of g

-- a cause before which there is none is the one that is told
abbrev pub FirstCausesAreTold : Type 0
FirstCausesAreTold =
    (unit : UnitTree) (f : TypeFault) → HasCause unit f → ((g : TypeFault) → HasCause unit g → place_of f ≤ place_of g)
    → first_refusal unit ≡ Some f

-- a fault is told of a unit: its first cause, or that there is no memory
abbrev pub IsTold : UnitTree → TypeFault → Type 0
IsTold unit f = (f ≡ faults.NoMemory) ⊎ IsCause unit f

-- a unit is refused for no cause
pub record IsAccepted (unit : UnitTree) : Type 0 where
  pub well_typed : WellTyped unit
  pub within_limits : IsWithinLimits unit

-- ---- by what a walk found and noted, and what is known behind it

abbrev pub runs_in : Context → List ℕ → Bool
runs_in c f = entity_runs (entity_of c f)

abbrev pub has_main_in : Context → Bool
has_main_in c = entity_has_body (entity_of c main_name)

abbrev pub late_by : Context → WalkTree → UnitTree → Option TypeFault
late_by c w unit =
    option_or (rule_fault w.found.least)
    (option_or (main_fault (has_main_in c))
    (option_or (undefined_fault (undefined_from (runs_in c) w.noted.calls unit))
    (option_or (limit_fault kinds.Globals (block_past global_limit 0 (w.noted.globals ++ map text_block w.noted.texts)))
    (limit_fault kinds.Locals w.noted.local_past))))
