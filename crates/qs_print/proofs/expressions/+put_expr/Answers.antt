use Rattle.std.proofs.Common.{◌≡◌, arith, false, sym, ◌∙◌}
use Rattle.qs_syntax_vocabulary.specs.Operators.{stands_before}
use Rattle.qs_syntax.specs.TreeOf.{expr_tree}
use Rattle.qs_print.specs.Levels.{assignment_level}
use Rattle.qs_print.specs.Printed.{printed_part}
use Rattle.qs_print.proofs.Spaces.{arguments_list, commas_more, last}
use Rattle.qs_print.proofs.Variants.{assign_tree, binary_tree, call_tree, cast_tree, conditional_tree, comma_tree, subscript_tree, member_tree, sizeof_expr_tree, sizeof_type_tree}
use Rattle.qs_print.proofs.expressions.+put_expr.Goals as goal

pub put_arguments-loop-e-preserved : goal.put_arguments-loop-e-preserved
put_arguments-loop-e-preserved t c = record {
  start = λ e. cc;
  later = λ _. omega arith;
  written = commas_more (printed_part assignment_level) expr_tree c.args.arguments.now c.loop-e.e-index c.e-item.result c.loop-e.is_first (omega arith) c.e-item.is c.loop-e.invariant.start c.loop-e.invariant.later c.loop-e.invariant.written c.in_ok-put_comma_unless.ensures c.in_ok-put_part.ensures;
}

pub put_in_parentheses-returns : goal.put_in_parentheses-returns
put_in_parentheses-returns t c = last _ _ c.put_punctuator-2.result c.in_ok-put_punctuator.ensures (last _ _ c.put_punctuator-2.result c.in_ok-put_expr.ensures c.put_punctuator-2.ensures)

pub put_shape-returns-in_ok-put_type_in_parentheses-in-Cast : goal.put_shape-returns-in_ok-put_type_in_parentheses-in-Cast
put_shape-returns-in_ok-put_type_in_parentheses-in-Cast t c = rw (c.in-Cast.is, cast_tree, ← c.deref-in-Cast.ensures) (last _ _ c.put_part-in-Cast.result c.in_ok-put_type_in_parentheses-in-Cast.ensures c.put_part-in-Cast.ensures)

pub put_shape-returns-in_ok-put_keyword-in-SizeofType : goal.put_shape-returns-in_ok-put_keyword-in-SizeofType
put_shape-returns-in_ok-put_keyword-in-SizeofType t c = rw (c.in-SizeofType.is, sizeof_type_tree) (last _ _ c.put_type_in_parentheses-in-SizeofType.result c.in_ok-put_keyword-in-SizeofType.ensures c.put_type_in_parentheses-in-SizeofType.ensures)

pub put_shape-returns-in_ok-put_keyword-in-SizeofExpr : goal.put_shape-returns-in_ok-put_keyword-in-SizeofExpr
put_shape-returns-in_ok-put_keyword-in-SizeofExpr t c = rw (c.in-SizeofExpr.is, sizeof_expr_tree, ← c.deref-in-SizeofExpr.ensures) (last _ _ c.put_part-in-SizeofExpr.result c.in_ok-put_keyword-in-SizeofExpr.ensures c.put_part-in-SizeofExpr.ensures)

pub put_shape-returns-in_ok-put_punctuator-in-Binary : goal.put_shape-returns-in_ok-put_punctuator-in-Binary
put_shape-returns-in_ok-put_punctuator-in-Binary t c = rw (c.in-Binary.is, binary_tree, ← c.deref-in-Binary.ensures, ← c.deref-in-Binary-2.ensures, ← c.punctuator-in-Binary.ensures, ← c.precedence-own.ensures.is) (last _ _ c.put_part-in-Binary-2.result c.in_ok-put_part-in-Binary.ensures (last _ _ c.put_part-in-Binary-2.result c.in_ok-put_punctuator-in-Binary.ensures c.put_part-in-Binary-2.ensures))

pub put_shape-returns-in_ok-put_punctuator-in-Assign : goal.put_shape-returns-in_ok-put_punctuator-in-Assign
put_shape-returns-in_ok-put_punctuator-in-Assign t c = rw (c.in-Assign.is, assign_tree, ← c.deref-in-Assign.ensures, ← c.deref-in-Assign-2.ensures, ← c.punctuator-in-Assign.ensures) (last _ _ c.put_part-in-Assign-2.result c.in_ok-put_part-in-Assign.ensures (last _ _ c.put_part-in-Assign-2.result c.in_ok-put_punctuator-in-Assign.ensures c.put_part-in-Assign-2.ensures))

pub put_shape-returns-in_ok-put_punctuator-in-Conditional-2 : goal.put_shape-returns-in_ok-put_punctuator-in-Conditional-2
put_shape-returns-in_ok-put_punctuator-in-Conditional-2 t c = rw (c.in-Conditional.is, conditional_tree, ← c.deref-in-Conditional.ensures, ← c.deref-in-Conditional-2.ensures, ← c.deref-in-Conditional-3.ensures) (last _ _ c.put_part-in-Conditional-2.result c.in_ok-put_part-in-Conditional.ensures (last _ _ c.put_part-in-Conditional-2.result c.in_ok-put_punctuator-in-Conditional.ensures (last _ _ c.put_part-in-Conditional-2.result c.in_ok-put_expr-in-Conditional.ensures (last _ _ c.put_part-in-Conditional-2.result c.in_ok-put_punctuator-in-Conditional-2.ensures c.put_part-in-Conditional-2.ensures))))

pub put_shape-returns-in_ok-put_punctuator-in-Comma : goal.put_shape-returns-in_ok-put_punctuator-in-Comma
put_shape-returns-in_ok-put_punctuator-in-Comma t c = rw (c.in-Comma.is, comma_tree, ← c.deref-in-Comma.ensures, ← c.deref-in-Comma-2.ensures) (last _ _ c.put_part-in-Comma.result c.in_ok-put_expr-in-Comma.ensures (last _ _ c.put_part-in-Comma.result c.in_ok-put_punctuator-in-Comma.ensures c.put_part-in-Comma.ensures))

pub put_shape-returns-in_ok-put_expr-in-Subscript : goal.put_shape-returns-in_ok-put_expr-in-Subscript
put_shape-returns-in_ok-put_expr-in-Subscript t c = rw (c.in-Subscript.is, subscript_tree, ← c.deref-in-Subscript.ensures, ← c.deref-in-Subscript-2.ensures) (last _ _ c.put_punctuator-in-Subscript-2.result c.in_ok-put_part-in-Subscript.ensures (last _ _ c.put_punctuator-in-Subscript-2.result c.in_ok-put_punctuator-in-Subscript.ensures (last _ _ c.put_punctuator-in-Subscript-2.result c.in_ok-put_expr-in-Subscript.ensures c.put_punctuator-in-Subscript-2.ensures)))

pub put_shape-returns-in_ok-put_punctuator-in-Member : goal.put_shape-returns-in_ok-put_punctuator-in-Member
put_shape-returns-in_ok-put_punctuator-in-Member t c = rw (c.in-Member.is, member_tree, ← c.deref-in-Member.ensures, ← c.punctuator-in-Member.ensures) (last _ _ c.put_name-in-Member.result c.in_ok-put_part-in-Member.ensures (last _ _ c.put_name-in-Member.result c.in_ok-put_punctuator-in-Member.ensures c.put_name-in-Member.ensures))

pub put_shape-returns-in_ok-put_arguments-in-Call : goal.put_shape-returns-in_ok-put_arguments-in-Call
put_shape-returns-in_ok-put_arguments-in-Call t c = rw (c.in-Call.is, call_tree, arguments_list, ← c.deref-in-Call.ensures.value) (last _ _ c.put_punctuator-in-Call-2.result c.in_ok-put_name-in-Call.ensures (last _ _ c.put_punctuator-in-Call-2.result c.in_ok-put_punctuator-in-Call.ensures (last _ _ c.put_punctuator-in-Call-2.result c.in_ok-put_arguments-in-Call.ensures c.put_punctuator-in-Call-2.ensures)))

pub put_step-returns-in_ok-put_part : goal.put_step-returns-in_ok-put_part
put_step-returns-in_ok-put_part t c =
    let behind : stands_before c.args.operator ≡ false = sym c.stands_before.ensures ∙ c.if-stands_before.false in
    rw (behind, ← c.punctuator-else-stands_before.ensures) (last _ _ c.put_punctuator-else-stands_before.result c.in_ok-put_part.ensures c.put_punctuator-else-stands_before.ensures)
