use Rattle.qs_print.proofs.Spaces.{last}
use Rattle.qs_print.proofs.statements.put_case.Goals as goal

pub returns : goal.returns
returns c = last _ _ c.put_punctuator.result c.in_ok-put_keyword.ensures (last _ _ c.put_punctuator.result c.in_ok-put_part.ensures c.put_punctuator.ensures)
