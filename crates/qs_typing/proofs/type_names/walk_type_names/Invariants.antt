use Rattle.std.proofs.Common.{◌≡◌, drop, map}
use Rattle.qs_syntax.specs.TreeOf.{declarator_tree}
use Rattle.qs_types.specs.UnitRules.{after_type_names}
use Rattle.qs_typing_findings.specs.PartsOf.{option_type}
use Rattle.qs_typing_findings.specs.ContextOf.{context_tree}
use Rattle.qs_typing_findings.specs.UnitWalk.{type_names_walked}
use Rattle.qs_typing_findings.specs.WalkOf.{walk_tree}
use Rattle.qs_typing.proofs.type_names.walk_type_names.Given as goal

abbrev pub invariant-loop-d : goal.invariant-loop-d
invariant-loop-d l = record {
  context :
      after_type_names (context_tree l.initial.c) (option_type l.base) (map declarator_tree l.ds)
      ≡ after_type_names (context_tree l.c) (option_type l.base) (map declarator_tree (drop l.d-index l.ds));
  walked :
      type_names_walked (context_tree l.initial.c) (option_type l.base) (map declarator_tree l.ds) (walk_tree l.initial.walk)
      ≡ type_names_walked (context_tree l.c) (option_type l.base) (map declarator_tree (drop l.d-index l.ds)) (walk_tree l.walk);
}
