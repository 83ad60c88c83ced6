use Rattle.qs_print.proofs.Spaces.{last}
use Rattle.qs_print.proofs.statements.put_start.Goals as goal

pub returns-in_ok-put_expr-in-Expression : goal.returns-in_ok-put_expr-in-Expression
returns-in_ok-put_expr-in-Expression c = rw c.in-Expression.is (last _ _ c.put_punctuator-in-Expression.result c.in_ok-put_expr-in-Expression.ensures c.put_punctuator-in-Expression.ensures)
