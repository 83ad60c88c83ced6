use Rattle.std.proofs.Common.{◌≡◌, drop, map}
use Rattle.qs_syntax.specs.TreeOf.{declarator_tree}
use Rattle.qs_types.specs.UnitRules.{after_together}
use Rattle.qs_typing_findings.specs.ContextOf.{context_tree}
use Rattle.qs_typing.specs.MembersOf.{before_tree}
use Rattle.qs_typing_findings.specs.UnitWalk.{together_walked}
use Rattle.qs_typing_findings.specs.WalkOf.{walk_tree}
use Rattle.qs_typing.proofs.structs.walk_together.Given as goal

abbrev pub invariant-loop-d : goal.invariant-loop-d
invariant-loop-d l = record {
  before :
      after_together (context_tree l.c) (before_tree l.initial.before) l.base (map declarator_tree l.ds)
      ≡ after_together (context_tree l.c) (before_tree l.before) l.base (map declarator_tree (drop l.d-index l.ds));
  walked :
      together_walked (context_tree l.c) (before_tree l.initial.before) l.base (map declarator_tree l.ds) (walk_tree l.initial.walk)
      ≡ together_walked (context_tree l.c) (before_tree l.before) l.base (map declarator_tree (drop l.d-index l.ds)) (walk_tree l.walk);
}
