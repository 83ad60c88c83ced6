use Rattle.std.proofs.Common.{◌≡◌, ◌++◌, drop}
use Rattle.qs_asm.specs.Items.{plain}
use Rattle.qs_emit_selection.specs.Emission.{save}
use Rattle.qs_emit_selection.proofs.entry.put_save.Given as goal

abbrev pub invariant-loop-i : goal.invariant-loop-i
invariant-loop-i l =
    l.items.items ++ plain (save l.fn.outgoing (drop l.i l.registers) l.i)
    ≡ l.initial.items.items ++ plain (save l.fn.outgoing l.registers 0)
