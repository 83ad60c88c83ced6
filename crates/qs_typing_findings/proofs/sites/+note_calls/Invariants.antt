use Rattle.std.proofs.Common.{◌≡◌, ◌+◌, ◌*◌, ◌++◌, max, drop}
use Rattle.qs_syntax.specs.declared.expressions.Expr.{size-Expr}
use Rattle.qs_syntax.specs.TreeOf.{exprs_tree}
use Rattle.qs_types.specs.References.{exprs_calls}
use Rattle.qs_typing_findings.proofs.sites.+note_calls.Given as goal

abbrev pub decreases-note_calls : goal.decreases-note_calls
decreases-note_calls l = 2 * goal.size-note_calls l

abbrev pub decreases-note_shape_calls : goal.decreases-note_shape_calls
decreases-note_shape_calls l = 2 * goal.size-note_shape_calls l

abbrev pub decreases-note_both_calls : goal.decreases-note_both_calls
decreases-note_both_calls l = 2 * max (size-Expr l.a.now) (size-Expr l.b.now) + 1

abbrev pub decreases-note_all_calls : goal.decreases-note_all_calls
decreases-note_all_calls l = 2 * goal.size-note_all_calls l + 1

abbrev pub invariant-note_all_calls-loop-e : goal.invariant-note_all_calls-loop-e
invariant-note_all_calls-loop-e l = l.initial.calls.items ++ exprs_calls (exprs_tree l.es) ≡ l.calls.items ++ exprs_calls (exprs_tree (drop l.e-index l.es))
