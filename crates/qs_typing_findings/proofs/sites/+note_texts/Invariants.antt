use Rattle.std.proofs.Common.{◌≡◌, ◌+◌, ◌*◌, ◌++◌, max, drop, map}
use Rattle.qs_syntax.specs.declared.expressions.Expr.{size-Expr}
use Rattle.qs_syntax.specs.TreeOf.{exprs_tree}
use Rattle.qs_types.specs.References.{exprs_texts}
use Rattle.qs_typing_findings.specs.NotedOf.{text_tree}
use Rattle.qs_typing_findings.proofs.sites.+note_texts.Given as goal

abbrev pub decreases-note_texts : goal.decreases-note_texts
decreases-note_texts l = 2 * goal.size-note_texts l

abbrev pub decreases-note_shape_texts : goal.decreases-note_shape_texts
decreases-note_shape_texts l = 2 * goal.size-note_shape_texts l

abbrev pub decreases-note_both_texts : goal.decreases-note_both_texts
decreases-note_both_texts l = 2 * max (size-Expr l.a.now) (size-Expr l.b.now) + 1

abbrev pub decreases-note_all_texts : goal.decreases-note_all_texts
decreases-note_all_texts l = 2 * goal.size-note_all_texts l + 1

abbrev pub invariant-note_all_texts-loop-e : goal.invariant-note_all_texts-loop-e
invariant-note_all_texts-loop-e l =
    map text_tree l.initial.texts.items ++ exprs_texts (exprs_tree l.es) ≡ map text_tree l.texts.items ++ exprs_texts (exprs_tree (drop l.e-index l.es))
