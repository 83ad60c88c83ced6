use Rattle.std.proofs.Common.{◌≤◌, ◌^◌, sym, subst}
use Rattle.qs_tac.specs.TreeOf.{function_tree}
use Rattle.qs_tac.specs.Places.{places_tree}
use Rattle.qs_frames.specs.declared.frame.Frame.{Frame}
use Rattle.qs_emit_selection.proofs.LimitLaws.{is_free}
use Rattle.qs_emit_selection.proofs.entry.cost.Goals as goal

pub returns-clause-most : goal.returns-clause-most
returns-clause-most c =
    let d = c.args.c.now in
    subst (λ (frame : Frame). frame.cost ≤ 2 ^ 28) (sym d.framed) (is_free (function_tree d.function.now) (places_tree d.places.now) d.fits).cost
