use Rattle.std.proofs.Common.{◌≡◌, ◌&&◌, drop, map}
use Rattle.qs_syntax.specs.TreeOf.{expr_tree}
use Rattle.qs_types.specs.Declarations.{all_typed, lengths_of}
use Rattle.qs_typing_findings.specs.ContextOf.{context_tree}
use Rattle.qs_typing.specs.DeclaredOf.{all_lengths, numbers}
use Rattle.qs_typing_findings.specs.UnitWalk.{lengths_walked}
use Rattle.qs_typing_findings.specs.WalkOf.{walk_tree}
use Rattle.qs_typing.proofs.lengths.walk_lengths.Given as goal

abbrev pub invariant-loop-e : goal.invariant-loop-e
invariant-loop-e l = record {
  typed : all_typed (context_tree l.c) (map expr_tree l.es) ≡ (l.all_typed && all_typed (context_tree l.c) (map expr_tree (drop l.e-index l.es)));
  values : lengths_of (context_tree l.c) (map expr_tree l.es) ≡ all_lengths (numbers l.values) (lengths_of (context_tree l.c) (map expr_tree (drop l.e-index l.es)));
  walked :
      lengths_walked (context_tree l.c) (map expr_tree l.es) (walk_tree l.initial.walk)
      ≡ lengths_walked (context_tree l.c) (map expr_tree (drop l.e-index l.es)) (walk_tree l.walk);
}
