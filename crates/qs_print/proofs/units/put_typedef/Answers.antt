use Rattle.qs_print.proofs.Spaces.{last}
use Rattle.qs_print.proofs.units.put_typedef.Goals as goal

pub returns : goal.returns
returns c = rw (← c.deref.ensures.value) (last _ _ c.put_punctuator.result c.in_ok-put_keyword.ensures (last _ _ c.put_punctuator.result c.in_ok-put_defined.ensures (last _ _ c.put_punctuator.result c.in_ok-put_declarators.ensures c.put_punctuator.ensures)))
