use Rattle.std.proofs.Common.{◌+◌, ◌^◌, ◌≤◌, ℕ, List, sym, subst}
use Rattle.qs_tac.specs.TreeOf.{function_tree}
use Rattle.qs_tac.specs.Places.{places_tree}
use Rattle.qs_frames.specs.declared.frame.Frame.{Frame}
use Rattle.qs_frames.specs.Layout.{total}
use Rattle.qs_emit_selection.proofs.UnitLaws.{room_for_blocks, frame_is_fit}
use Rattle.qs_emit_selection.proofs.selection.put_function_at.Goals as goal

pub laid_from-requires : goal.laid_from-requires
laid_from-requires c =
    subst (λ (sizes : List ℕ). c.layout-frame.result.placed + total sizes ≤ 2 ^ 29) (sym c.deref.ensures.value)
    (subst (λ (frame : Frame). frame.placed + total c.args.function.now.blocks.items ≤ 2 ^ 29) (sym c.layout-frame.ensures)
    (room_for_blocks (function_tree c.args.function.now) (places_tree c.args.places.now) c.requires.fault))

pub slot_starts-requires : goal.slot_starts-requires
slot_starts-requires c = frame_is_fit (function_tree c.args.function.now) (places_tree c.args.places.now) c.requires.fault

pub stored_registers-requires : goal.stored_registers-requires
stored_registers-requires c = frame_is_fit (function_tree c.args.function.now) (places_tree c.args.places.now) c.requires.fault
