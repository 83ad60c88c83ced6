use Rattle.std.proofs.Common.{◌<◌, sym, subst}
use Rattle.qs_tac.specs.TreeOf.{function_tree}
use Rattle.qs_tac.specs.Places.{places_tree}
use Rattle.qs_frames.specs.declared.frame.Frame.{Frame}
use Rattle.qs_frames.proofs.FrameLaws.{frames_are_laid_out}
use Rattle.qs_emit_selection.proofs.entry.put_enter.Goals as goal

pub downwards-requires : goal.downwards-requires
downwards-requires c =
    let d = c.args.c.now in
    subst (λ (frame : Frame). 0 < frame.cost) (sym d.framed) (frames_are_laid_out (function_tree d.function.now) (places_tree d.places.now)).positive
