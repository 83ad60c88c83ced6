use Rattle.qs_print.proofs.Spaces.{last}
use Rattle.qs_print.proofs.units.put_braces.Goals as goal

pub returns : goal.returns
returns c = rw (← c.deref.ensures.value) (last _ _ c.put_punctuator-2.result c.in_ok-put_keyword.ensures (last _ _ c.put_punctuator-2.result c.in_ok-put_optional_name.ensures (last _ _ c.put_punctuator-2.result c.in_ok-put_punctuator.ensures (last _ _ c.put_punctuator-2.result c.in_ok-put_all_members.ensures c.put_punctuator-2.ensures))))
