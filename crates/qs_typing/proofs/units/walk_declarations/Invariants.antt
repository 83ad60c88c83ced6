use Rattle.std.proofs.Common.{◌≡◌, drop, map}
use Rattle.qs_syntax.specs.TreeOf.{decl_tree}
use Rattle.qs_types.specs.UnitRules.{context_after}
use Rattle.qs_typing_findings.specs.ContextOf.{context_tree}
use Rattle.qs_typing_findings.specs.UnitWalk.{declarations_walked}
use Rattle.qs_typing_findings.specs.WalkOf.{walk_tree}
use Rattle.qs_typing.proofs.units.walk_declarations.Given as goal

abbrev pub invariant-loop-d : goal.invariant-loop-d
invariant-loop-d l = record {
  context : context_after (context_tree l.initial.c) (map decl_tree l.ds) ≡ context_after (context_tree l.c) (map decl_tree (drop l.d-index l.ds));
  walked :
      declarations_walked (context_tree l.initial.c) (map decl_tree l.ds) (walk_tree l.initial.walk)
      ≡ declarations_walked (context_tree l.c) (map decl_tree (drop l.d-index l.ds)) (walk_tree l.walk);
}
