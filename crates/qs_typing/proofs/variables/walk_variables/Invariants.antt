use Rattle.std.proofs.Common.{◌≡◌, drop, map}
use Rattle.qs_syntax.specs.TreeOf.{variable_tree}
use Rattle.qs_types.specs.StatementRules.{after_variables}
use Rattle.qs_typing_findings.specs.ContextOf.{context_tree}
use Rattle.qs_typing_findings.specs.UnitWalk.{variables_walked}
use Rattle.qs_typing_findings.specs.WalkOf.{walk_tree}
use Rattle.qs_typing.proofs.variables.walk_variables.Given as goal

abbrev pub invariant-loop-v : goal.invariant-loop-v
invariant-loop-v l = record {
  context :
      after_variables l.at_file_scope (context_tree l.initial.c) l.base (map variable_tree l.vs)
      ≡ after_variables l.at_file_scope (context_tree l.c) l.base (map variable_tree (drop l.v-index l.vs));
  walked :
      variables_walked l.at_file_scope (context_tree l.initial.c) l.base (map variable_tree l.vs) (walk_tree l.initial.walk)
      ≡ variables_walked l.at_file_scope (context_tree l.c) l.base (map variable_tree (drop l.v-index l.vs)) (walk_tree l.walk);
}
