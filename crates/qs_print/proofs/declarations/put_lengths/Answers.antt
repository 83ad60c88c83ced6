use Rattle.qs_print.proofs.Spaces.{last}
use Rattle.qs_print.proofs.declarations.put_lengths.Goals as goal

pub returns : goal.returns
returns c = rw (← c.deref.ensures.value) (last _ _ c.put_given.result c.in_ok-put_open_brackets.ensures c.put_given.ensures)
