use Rattle.std.proofs.Common.{◌≤◌, sym, subst}
use Rattle.qs_tac.specs.TreeOf.{function_tree}
use Rattle.qs_tac.specs.Places.{places_tree}
use Rattle.qs_frames.specs.declared.frame.Frame.{Frame}
use Rattle.qs_emit_selection.proofs.LimitLaws.{few_outgoing}
use Rattle.qs_emit_selection.proofs.entry.outgoing.Goals as goal

pub returns-clause-few : goal.returns-clause-few
returns-clause-few c =
    let d = c.args.c.now in
    subst (λ (frame : Frame). frame.outgoing ≤ 32) (sym d.framed) (few_outgoing (function_tree d.function.now) (places_tree d.places.now) d.fits)
