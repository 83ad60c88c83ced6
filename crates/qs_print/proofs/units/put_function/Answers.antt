use Rattle.qs_print.proofs.Spaces.{in_turn, last}
use Rattle.qs_print.proofs.units.put_function.Goals as goal

pub returns : goal.returns
returns c =
    let inside = in_turn c.in_ok-put_parameters.ensures c.in_ok-put_punctuator-2.ensures in
    let rest = last _ _ c.put_body.result c.in_ok-put_punctuator.ensures (last _ _ c.put_body.result inside c.put_body.ensures) in
    rw (← c.deref.ensures.value) (last _ _ c.put_body.result c.in_ok-put_base.ensures (last _ _ c.put_body.result c.in_ok-put_stars.ensures (last _ _ c.put_body.result c.in_ok-put_name.ensures rest)))
