use Rattle.qs_print.proofs.Spaces.{in_turn, last}
use Rattle.qs_print.proofs.statements.put_for_head.Goals as goal

pub returns : goal.returns
returns c =
    let inside = in_turn c.in_ok-put_start.ensures (in_turn c.in_ok-put_optional.ensures (in_turn c.in_ok-put_punctuator-2.ensures c.in_ok-put_optional-2.ensures)) in
    last _ _ c.put_punctuator-3.result c.in_ok-put_punctuator.ensures (last _ _ c.put_punctuator-3.result inside c.put_punctuator-3.ensures)
