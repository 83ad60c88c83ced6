use Rattle.std.proofs.Common.{Some, map, refl, ap, ◌∙◌}
use Rattle.qs_syntax.specs.TreeOf.{stmt_tree, stmts_tree}
use Rattle.qs_meaning.specs.Typed.{no_stmts, stmt_and}
use Rattle.qs_typed_nodes.specs.KnownStatements.{statement_known, statements_known}
use Rattle.qs_typed_nodes.specs.KnownOf.{known_tree}
use Rattle.qs_typed_trees.specs.TreeOf.{statement_tree}
use Rattle.qs_typed_nodes.proofs.Loops.{drop_item, pushed, turn, finish, all_statements}
use Rattle.qs_typed_bodies.proofs.bodies.+statement.Goals as goal

pub statements-loop-s-preserved : goal.statements-loop-s-preserved
statements-loop-s-preserved t c =
    turn stmt_and (λ s. statement_known (known_tree c.args.k.now) (stmt_tree s))
    (λ ss. statements_known (known_tree c.args.k.now) (stmts_tree ss)) c.args.ss.now c.loop-s.s-index c.s-item.result
    (map statement_tree c.loop-s.all.items) (map statement_tree c.push.new.self.items) (statement_tree c.in_ok-statement.field-0) _ c.loop-s.invariant (drop_item c.args.ss.now c.loop-s.s-index c.s-item.result c.loop-s-test.true c.s-item.is)
    (λ ys. refl) c.in_ok-statement.ensures (pushed statement_tree c.push.new.self.items c.loop-s.all.items c.in_ok-statement.field-0 c.in_ok-push.ensures.items)

pub statements-returns : goal.statements-returns
statements-returns t c =
    finish stmt_and (λ ss. statements_known (known_tree c.args.k.now) (stmts_tree ss)) c.args.ss.now c.loop-s.s-index (map statement_tree c.loop-s.all.items) no_stmts _ c.loop-s.invariant c.loop-s-test.false refl
    ∙ ap Some (all_statements (map statement_tree c.loop-s.all.items))
