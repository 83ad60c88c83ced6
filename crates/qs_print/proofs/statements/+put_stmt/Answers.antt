use Rattle.std.proofs.Common.{arith}
use Rattle.qs_syntax.specs.TreeOf.{stmt_tree}
use Rattle.qs_print.specs.Printed.{printed_stmt}
use Rattle.qs_print.proofs.Spaces.{last, row_more, stmts_list}
use Rattle.qs_print.proofs.Variants.{branch_tree, do_loop_tree, expression_tree, for_loop_tree, return_tree, switch_tree, while_loop_tree}
use Rattle.qs_print.proofs.statements.+put_stmt.Goals as goal

pub put_stmts-loop-s-preserved : goal.put_stmts-loop-s-preserved
put_stmts-loop-s-preserved t c = row_more printed_stmt stmt_tree c.args.items.now c.loop-s.s-index c.s-item.result (omega arith) c.s-item.is c.loop-s.invariant c.in_ok-put_stmt.ensures

pub put_block-returns : goal.put_block-returns
put_block-returns t c = rw stmts_list (last _ _ c.put_punctuator-2.result c.in_ok-put_punctuator.ensures (last _ _ c.put_punctuator-2.result c.in_ok-put_stmts.ensures c.put_punctuator-2.ensures))

pub put_stmt-returns-in_ok-put_expr-in-Expression : goal.put_stmt-returns-in_ok-put_expr-in-Expression
put_stmt-returns-in_ok-put_expr-in-Expression t c = rw (c.in-Expression.is, expression_tree) (last _ _ c.put_punctuator-in-Expression.result c.in_ok-put_expr-in-Expression.ensures c.put_punctuator-in-Expression.ensures)

pub put_stmt-returns-in_ok-put_in_parentheses-in-Switch : goal.put_stmt-returns-in_ok-put_in_parentheses-in-Switch
put_stmt-returns-in_ok-put_in_parentheses-in-Switch t c = rw (c.in-Switch.is, switch_tree, ← c.deref-in-Switch.ensures.value) (last _ _ c.put_block-in-Switch.result c.in_ok-put_keyword-in-Switch.ensures (last _ _ c.put_block-in-Switch.result c.in_ok-put_in_parentheses-in-Switch.ensures c.put_block-in-Switch.ensures))

pub put_stmt-returns-in_ok-put_stmt-in-If : goal.put_stmt-returns-in_ok-put_stmt-in-If
put_stmt-returns-in_ok-put_stmt-in-If t c = rw (c.in-If.is, branch_tree, ← c.deref-in-If.ensures) (last _ _ c.put_else.result c.in_ok-put_keyword-in-If.ensures (last _ _ c.put_else.result c.in_ok-put_in_parentheses-in-If.ensures (last _ _ c.put_else.result c.in_ok-put_stmt-in-If.ensures c.put_else.ensures)))

pub put_stmt-returns-in_ok-put_in_parentheses-in-While : goal.put_stmt-returns-in_ok-put_in_parentheses-in-While
put_stmt-returns-in_ok-put_in_parentheses-in-While t c = rw (c.in-While.is, while_loop_tree, ← c.deref-in-While.ensures) (last _ _ c.put_stmt-in-While.result c.in_ok-put_keyword-in-While.ensures (last _ _ c.put_stmt-in-While.result c.in_ok-put_in_parentheses-in-While.ensures c.put_stmt-in-While.ensures))

pub put_stmt-returns-in_ok-put_in_parentheses-in-Do : goal.put_stmt-returns-in_ok-put_in_parentheses-in-Do
put_stmt-returns-in_ok-put_in_parentheses-in-Do t c = rw (c.in-Do.is, do_loop_tree, ← c.deref-in-Do.ensures) (last _ _ c.put_punctuator-in-Do.result c.in_ok-put_keyword-in-Do.ensures (last _ _ c.put_punctuator-in-Do.result c.in_ok-put_stmt-in-Do.ensures (last _ _ c.put_punctuator-in-Do.result c.in_ok-put_keyword-in-Do-2.ensures (last _ _ c.put_punctuator-in-Do.result c.in_ok-put_in_parentheses-in-Do.ensures c.put_punctuator-in-Do.ensures))))

pub put_stmt-returns-in_ok-put_for_head-in-For : goal.put_stmt-returns-in_ok-put_for_head-in-For
put_stmt-returns-in_ok-put_for_head-in-For t c = rw (c.in-For.is, for_loop_tree, ← c.deref-in-For.ensures) (last _ _ c.put_stmt-in-For.result c.in_ok-put_keyword-in-For.ensures (last _ _ c.put_stmt-in-For.result c.in_ok-put_for_head-in-For.ensures c.put_stmt-in-For.ensures))

pub put_stmt-returns-in_ok-put_optional-in-Return : goal.put_stmt-returns-in_ok-put_optional-in-Return
put_stmt-returns-in_ok-put_optional-in-Return t c = rw (c.in-Return.is, return_tree) (last _ _ c.put_punctuator-in-Return.result c.in_ok-put_keyword-in-Return.ensures (last _ _ c.put_punctuator-in-Return.result c.in_ok-put_optional-in-Return.ensures c.put_punctuator-in-Return.ensures))
