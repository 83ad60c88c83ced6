-- A unit is refused for no cause exactly where it is well typed and within the limits; what a walk shows are the causes.
use Rattle.std.proofs.Common.{◌≡◌, inl, inr, ℕ, Bool, true, false, List, [], ◌∷◌, ◌++◌, Option, Some, None, Result, Ok, Err, IsErr, IsErrAnd, IfErr, is_some, map, refl, sym, ap, ◌∙◌}
use Rattle.std.specs.Option.{option_or}
use Rattle.qs_syntax.specs.Trees.{UnitTree}
use Rattle.qs_types.specs.declared.limits.LimitKind.{LimitKind}
use Rattle.qs_types.specs.declared.limits.LimitKind.TheVariants as kinds
use Rattle.qs_types.specs.Contexts.{Context, start_context}
use Rattle.qs_types.specs.Limits.{IsWithinLimits, data_blocks, variable_blocks_from, text_block, block_past, first_past_nodes, node_limit, first_past_functions, function_limit, first_past_parameters, parameter_limit, first_past_globals, global_limit, first_past_locals, local_limit}
use Rattle.qs_types.specs.References.{unit_calls}
use Rattle.qs_types.specs.Rules.{Fault, is_any}
use Rattle.qs_types.specs.UnitRules.{faults_in}
use Rattle.qs_types.specs.WellTyped.{WellTyped, end_context, has_main, first_undefined, undefined_from, runs}
use Rattle.qs_typing_findings.specs.declared.type_fault.TypeFault.{TypeFault}
use Rattle.qs_typing_findings.specs.declared.type_fault.TypeFault.TheVariants as faults
use Rattle.qs_typing_findings.specs.Findings.{least_with}
use Rattle.qs_typing_findings.specs.Refusals.{IsAccepted, IsTold, limit_fault, rule_fault, main_fault, undefined_fault, early_refusal, late_refusal, first_refusal, late_by}
use Rattle.qs_typing_findings.specs.UnitWalk.{WalkTree, unit_walked}
use Rattle.qs_typing_findings.proofs.AddedFindings.{unit_least, unit_called, unit_texts}
use Rattle.qs_typing_findings.proofs.Blocks.{unit_globals, unit_past}
use Rattle.qs_typing_findings.proofs.Causes.{cause_is}
use Rattle.qs_typing.proofs.WatchedExpressions.{any_least}

-- ---- nothing is refused

none_first : (o p : Option TypeFault) → option_or o p ≡ None → o ≡ None
none_first None p h = refl
none_first (Some f) p h = h

none_second : (o p : Option TypeFault) → option_or o p ≡ None → p ≡ None
none_second None p h = h
none_second (Some f) p h = absurd (cc)

no_limit : (kind : LimitKind) (o : Option ℕ) → limit_fault kind o ≡ None → o ≡ None
no_limit kind None h = refl
no_limit kind (Some n) h = absurd (cc)

no_rule : (o : Option Fault) → rule_fault o ≡ None → is_some o ≡ false
no_rule None h = refl
no_rule (Some f) h = absurd (cc)

no_fault : (fs : List Fault) → is_any fs ≡ false → fs ≡ []
no_fault [] h = refl
no_fault (f ∷ fs) h = absurd (cc)

main_there : (b : Bool) → main_fault b ≡ None → b ≡ true
main_there true h = refl
main_there false h = absurd (cc)

all_defined : (o : Option ℕ) → undefined_fault o ≡ None → o ≡ None
all_defined None h = refl
all_defined (Some n) h = absurd (cc)

abbrev rule_of : UnitTree → Option TypeFault
rule_of unit = rule_fault (least_with None (faults_in unit))

abbrev globals_of : UnitTree → Option TypeFault
globals_of unit = limit_fault kinds.Globals (first_past_globals global_limit unit)

abbrev locals_of : UnitTree → Option TypeFault
locals_of unit = limit_fault kinds.Locals (first_past_locals local_limit unit)

abbrev behind_undefined : UnitTree → Option TypeFault
behind_undefined unit = option_or (globals_of unit) (locals_of unit)

abbrev behind_main : UnitTree → Option TypeFault
behind_main unit = option_or (undefined_fault (first_undefined unit)) (behind_undefined unit)

abbrev behind_rule : UnitTree → Option TypeFault
behind_rule unit = option_or (main_fault (has_main unit)) (behind_main unit)

late : (unit : UnitTree) → first_refusal unit ≡ None → late_refusal unit ≡ None
late unit h = none_second (early_refusal unit) (late_refusal unit) h

after_rule : (unit : UnitTree) → first_refusal unit ≡ None → behind_rule unit ≡ None
after_rule unit h = none_second (rule_of unit) (behind_rule unit) (late unit h)

after_main : (unit : UnitTree) → first_refusal unit ≡ None → behind_main unit ≡ None
after_main unit h = none_second (main_fault (has_main unit)) (behind_main unit) (after_rule unit h)

after_undefined : (unit : UnitTree) → first_refusal unit ≡ None → behind_undefined unit ≡ None
after_undefined unit h = none_second (undefined_fault (first_undefined unit)) (behind_undefined unit) (after_main unit h)

is_well_typed : (unit : UnitTree) → first_refusal unit ≡ None → WellTyped unit
is_well_typed unit h = record {
  keeps_rules =
      no_fault (faults_in unit)
      (sym (any_least (faults_in unit)) ∙ no_rule (least_with None (faults_in unit)) (none_first (rule_of unit) (behind_rule unit) (late unit h)));
  main_has_body = main_there (has_main unit) (none_first (main_fault (has_main unit)) (behind_main unit) (after_rule unit h));
  calls_have_bodies = all_defined (first_undefined unit) (none_first (undefined_fault (first_undefined unit)) (behind_undefined unit) (after_main unit h));
}

abbrev nodes_of : UnitTree → Option TypeFault
nodes_of unit = limit_fault kinds.Nodes (first_past_nodes node_limit unit)

abbrev functions_of : UnitTree → Option TypeFault
functions_of unit = limit_fault kinds.Functions (first_past_functions function_limit unit)

abbrev parameters_of : UnitTree → Option TypeFault
parameters_of unit = limit_fault kinds.Parameters (first_past_parameters parameter_limit unit)

early : (unit : UnitTree) → first_refusal unit ≡ None → early_refusal unit ≡ None
early unit h = none_first (early_refusal unit) (late_refusal unit) h

after_nodes : (unit : UnitTree) → first_refusal unit ≡ None → option_or (functions_of unit) (parameters_of unit) ≡ None
after_nodes unit h = none_second (nodes_of unit) (option_or (functions_of unit) (parameters_of unit)) (early unit h)

is_within_limits : (unit : UnitTree) → first_refusal unit ≡ None → IsWithinLimits unit
is_within_limits unit h = record {
  nodes = no_limit kinds.Nodes (first_past_nodes node_limit unit) (none_first (nodes_of unit) (option_or (functions_of unit) (parameters_of unit)) (early unit h));
  functions = no_limit kinds.Functions (first_past_functions function_limit unit) (none_first (functions_of unit) (parameters_of unit) (after_nodes unit h));
  parameters = no_limit kinds.Parameters (first_past_parameters parameter_limit unit) (none_second (functions_of unit) (parameters_of unit) (after_nodes unit h));
  globals = no_limit kinds.Globals (first_past_globals global_limit unit) (none_first (globals_of unit) (locals_of unit) (after_undefined unit h));
  locals = no_limit kinds.Locals (first_past_locals local_limit unit) (none_second (globals_of unit) (locals_of unit) (after_undefined unit h));
}

pub is_accepted : (unit : UnitTree) → first_refusal unit ≡ None → IsAccepted unit
is_accepted unit h = record { well_typed = is_well_typed unit h; within_limits = is_within_limits unit h }

pub nothing_refused : (unit : UnitTree) → IsAccepted unit → first_refusal unit ≡ None
nothing_refused unit a =
    let w = a.well_typed in
    let l = a.within_limits in
    λ i. option_or
    (option_or (limit_fault kinds.Nodes (l.nodes i)) (option_or (limit_fault kinds.Functions (l.functions i)) (limit_fault kinds.Parameters (l.parameters i))))
    (option_or (rule_fault (least_with None (w.keeps_rules i)))
    (option_or (main_fault (w.main_has_body i))
    (option_or (undefined_fault (w.calls_have_bodies i))
    (option_or (limit_fault kinds.Globals (l.globals i)) (limit_fault kinds.Locals (l.locals i))))))

-- ---- what a walk shows

data_are : (unit : UnitTree) → (unit_walked unit).noted.globals ++ map text_block (unit_walked unit).noted.texts ≡ data_blocks unit
data_are unit =
    ap (λ gs. gs ++ map text_block (unit_walked unit).noted.texts) (unit_globals unit) ∙ ap (λ ts. variable_blocks_from start_context unit ++ map text_block ts) (unit_texts unit)

late_parts : (unit : UnitTree) (l m : Option Fault) (calls names : List (List ℕ)) (ds es : List _) (p q : Option ℕ) → l ≡ m → calls ≡ names → ds ≡ es → p ≡ q
    → option_or (rule_fault l) (option_or (main_fault (has_main unit)) (option_or (undefined_fault (undefined_from (runs unit) calls unit)) (option_or (limit_fault kinds.Globals (block_past global_limit 0 ds)) (limit_fault kinds.Locals p))))
    ≡ option_or (rule_fault m) (option_or (main_fault (has_main unit)) (option_or (undefined_fault (undefined_from (runs unit) names unit)) (option_or (limit_fault kinds.Globals (block_past global_limit 0 es)) (limit_fault kinds.Locals q))))
late_parts unit l m calls names ds es p q a b d e = λ i. option_or (rule_fault (a i)) (option_or (main_fault (has_main unit)) (option_or (undefined_fault (undefined_from (runs unit) (b i) unit)) (option_or (limit_fault kinds.Globals (block_past global_limit 0 (d i))) (limit_fault kinds.Locals (e i)))))

pub late_is : (unit : UnitTree) → late_by (end_context unit) (unit_walked unit) unit ≡ late_refusal unit
late_is unit =
    late_parts unit (unit_walked unit).found.least (least_with None (faults_in unit)) (unit_walked unit).noted.calls (unit_calls unit)
    ((unit_walked unit).noted.globals ++ map text_block (unit_walked unit).noted.texts) (data_blocks unit) (unit_walked unit).noted.local_past (first_past_locals local_limit unit)
    (unit_least unit) (unit_called unit) (data_are unit) (unit_past unit)

-- the same, where this is known and walked
pub late_known : (unit : UnitTree) (c : Context) (w : WalkTree) → c ≡ end_context unit → w ≡ unit_walked unit → late_by c w unit ≡ late_refusal unit
late_known unit c w e h = (λ i. late_by (e i) (h i) unit) ∙ late_is unit

-- ---- what is told

pub early_told : (unit : UnitTree) (f : TypeFault) → Some f ≡ early_refusal unit → IsTold unit f
early_told unit f e = inr (cause_is unit f (ap (λ o. option_or o (late_refusal unit)) (sym e)))

pub late_told : (unit : UnitTree) (c : Context) (w : WalkTree) (f : TypeFault) → None ≡ early_refusal unit → c ≡ end_context unit → w ≡ unit_walked unit → Some f ≡ late_by c w unit → IsTold unit f
late_told unit c w f n e h l = inr (cause_is unit f ((λ i. option_or (sym n i) (sym (late_known unit c w e h) i)) ∙ sym l))

pub none_told : (unit : UnitTree) (c : Context) (w : WalkTree) → None ≡ early_refusal unit → c ≡ end_context unit → w ≡ unit_walked unit → None ≡ late_by c w unit → first_refusal unit ≡ None
none_told unit c w n e h l = (λ i. option_or (sym n i) (sym (late_known unit c w e h) i)) ∙ sym l

-- so is want of memory
pub memory_told : {T : Type 0} (unit : UnitTree) (r : Result T TypeFault) → IsErr r × IsErrAnd r (λ f. f ≡ faults.NoMemory) → IfErr r (λ f. IsTold unit f)
memory_told unit (Ok x) h = tt
memory_told unit (Err f) h = inl h.1

-- of a unit that is accepted nothing but want of memory is told
pub told_of_good : (unit : UnitTree) (f : TypeFault) → IsTold unit f → IsAccepted unit → f ≡ faults.NoMemory
told_of_good unit f (inl e) a = e
told_of_good unit f (inr cause) a = absurd (let e : Some f ≡ None = sym cause.first ∙ nothing_refused unit a in cc)

-- what the answer of `check` tells
pub ruleset check_told = (early_told, late_told, told_of_good)
