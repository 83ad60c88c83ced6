use Rattle.qs_print.proofs.Spaces.{last}
use Rattle.qs_print.proofs.expressions.put_type_in_parentheses.Goals as goal

pub returns : goal.returns
returns c = last _ _ c.put_punctuator-2.result c.in_ok-put_punctuator.ensures (last _ _ c.put_punctuator-2.result c.in_ok-put_type_name.ensures c.put_punctuator-2.ensures)
