use Rattle.qs_print.proofs.Spaces.{last}
use Rattle.qs_print.proofs.units.put_struct.Goals as goal

pub returns : goal.returns
returns c = last _ _ c.put_punctuator.result c.in_ok-put_braces.ensures c.put_punctuator.ensures
