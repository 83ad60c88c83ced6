use Rattle.std.proofs.Common.{◌≡◌, ◌-◌, ◌++◌}
use Rattle.qs_asm.specs.Items.{plain}
use Rattle.qs_emit_selection.specs.Pieces.{zero_bytes}
use Rattle.qs_emit_selection.proofs.pieces.put_zero_bytes.Given as goal

abbrev pub invariant-loop-offset : goal.invariant-loop-offset
invariant-loop-offset l =
    l.items.items ++ plain (zero_bytes (l.fn.count - l.offset) l.offset) ≡ l.initial.items.items ++ plain (zero_bytes l.fn.count 0)
