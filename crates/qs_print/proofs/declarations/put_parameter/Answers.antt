use Rattle.qs_print.proofs.Spaces.{last}
use Rattle.qs_print.proofs.declarations.put_parameter.Goals as goal

pub returns : goal.returns
returns c = rw (← c.is_void_alone.ensures) (last _ _ c.put_lengths.result c.in_ok-put_const_if.ensures (last _ _ c.put_lengths.result c.in_ok-put_base.ensures (last _ _ c.put_lengths.result c.in_ok-put_stars.ensures (last _ _ c.put_lengths.result c.in_ok-put_optional_name.ensures c.put_lengths.ensures))))
