use Rattle.std.proofs.Common.{◌≡◌, ◌+◌, ◌*◌, max, drop}
use Rattle.qs_syntax.specs.declared.expressions.Expr.{size-Expr}
use Rattle.qs_syntax.specs.TreeOf.{exprs_tree}
use Rattle.qs_types.specs.Expressions.{types_of}
use Rattle.qs_typing_findings.specs.ContextOf.{context_tree}
use Rattle.qs_typing_findings.specs.FoundOf.{found_tree}
use Rattle.qs_typing_findings.specs.PartsOf.{joined, types_tree}
use Rattle.qs_typing_findings.specs.Walk.{all_walked}
use Rattle.qs_typing_findings.proofs.expressions.+walk.Given as goal

abbrev pub decreases-walk : goal.decreases-walk
decreases-walk l = 4 * size-Expr l.e.now

abbrev pub decreases-walk_used : goal.decreases-walk_used
decreases-walk_used l = 4 * size-Expr l.e.now + 1

abbrev pub decreases-walk_parts : goal.decreases-walk_parts
decreases-walk_parts l = 4 * goal.size-walk_parts l

abbrev pub decreases-walk_unary : goal.decreases-walk_unary
decreases-walk_unary l = 4 * size-Expr l.a.now + 2

abbrev pub decreases-walk_binary : goal.decreases-walk_binary
decreases-walk_binary l = 4 * max (size-Expr l.a.now) (size-Expr l.b.now) + 2

abbrev pub decreases-walk_assign : goal.decreases-walk_assign
decreases-walk_assign l = 4 * max (size-Expr l.a.now) (size-Expr l.b.now) + 2

abbrev pub decreases-walk_conditional : goal.decreases-walk_conditional
decreases-walk_conditional l = 4 * max (size-Expr l.d.now) (max (size-Expr l.a.now) (size-Expr l.b.now)) + 2

abbrev pub decreases-walk_comma : goal.decreases-walk_comma
decreases-walk_comma l = 4 * max (size-Expr l.a.now) (size-Expr l.b.now) + 2

abbrev pub decreases-walk_subscript : goal.decreases-walk_subscript
decreases-walk_subscript l = 4 * max (size-Expr l.a.now) (size-Expr l.b.now) + 2

abbrev pub decreases-walk_member : goal.decreases-walk_member
decreases-walk_member l = 4 * size-Expr l.a.now + 2

abbrev pub decreases-walk_all : goal.decreases-walk_all
decreases-walk_all l = 4 * goal.size-walk_all l + 2

abbrev pub invariant-walk_all-loop-e : goal.invariant-walk_all-loop-e
invariant-walk_all-loop-e l = record {
  typed : types_of (context_tree l.c) (exprs_tree l.es) ≡ joined (types_tree l.all) (types_of (context_tree l.c) (exprs_tree (drop l.e-index l.es)));
  found : all_walked (context_tree l.c) (exprs_tree l.es) (found_tree l.initial.found) ≡ all_walked (context_tree l.c) (exprs_tree (drop l.e-index l.es)) (found_tree l.found);
}
