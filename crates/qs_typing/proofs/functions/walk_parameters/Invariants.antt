use Rattle.std.proofs.Common.{◌≡◌, ◌++◌, drop, map, option_map}
use Rattle.qs_syntax.specs.TreeOf.{parameter_tree}
use Rattle.qs_types.specs.TypeOf.{type_tree}
use Rattle.qs_types.specs.UnitRules.{parameter_types}
use Rattle.qs_typing_findings.specs.ContextOf.{context_tree}
use Rattle.qs_typing_findings.specs.Functions.{after_parameters}
use Rattle.qs_typing_findings.specs.UnitWalk.{parameters_walked}
use Rattle.qs_typing_findings.specs.WalkOf.{walk_tree}
use Rattle.qs_typing.proofs.functions.walk_parameters.Given as goal

abbrev pub invariant-loop-p : goal.invariant-loop-p
invariant-loop-p l = record {
  typed :
      parameter_types (context_tree l.initial.c) (map parameter_tree l.ps)
      ≡ map (option_map type_tree) l.types.items ++ parameter_types (context_tree l.c) (map parameter_tree (drop l.p-index l.ps));
  context :
      after_parameters (context_tree l.initial.c) (map parameter_tree l.ps) ≡ after_parameters (context_tree l.c) (map parameter_tree (drop l.p-index l.ps));
  walked :
      parameters_walked (context_tree l.initial.c) l.has_body (map parameter_tree l.ps) (walk_tree l.initial.walk)
      ≡ parameters_walked (context_tree l.c) l.has_body (map parameter_tree (drop l.p-index l.ps)) (walk_tree l.walk);
}
