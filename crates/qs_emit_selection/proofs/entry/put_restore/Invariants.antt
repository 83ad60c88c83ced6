use Rattle.std.proofs.Common.{◌≡◌, ◌≤◌, ◌++◌, drop, length}
use Rattle.qs_asm.specs.Items.{plain}
use Rattle.qs_emit_selection.specs.Emission.{restore}
use Rattle.qs_emit_selection.proofs.entry.put_restore.Given as goal

abbrev pub invariant-loop-i : goal.invariant-loop-i
invariant-loop-i l = record {
  within : l.i ≤ length l.fn.registers;
  done : l.items.items ≡ l.initial.items.items ++ plain (restore l.fn.outgoing (drop l.i l.fn.registers) l.i);
}

abbrev pub decreases-loop-i : goal.decreases-loop-i
decreases-loop-i l = l.i
