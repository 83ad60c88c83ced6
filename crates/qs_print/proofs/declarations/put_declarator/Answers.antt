use Rattle.qs_print.proofs.Spaces.{last}
use Rattle.qs_print.proofs.declarations.put_declarator.Goals as goal

pub returns : goal.returns
returns c = last _ _ c.put_lengths.result c.in_ok-put_stars.ensures (last _ _ c.put_lengths.result c.in_ok-put_name.ensures c.put_lengths.ensures)
