use Rattle.std.proofs.Common.{◌≡◌, ◌++◌, drop}
use Rattle.qs_asm.specs.Items.{plain}
use Rattle.qs_emit_selection.specs.ContextOf.{context_tree}
use Rattle.qs_emit_selection.specs.Emission.{pass_in_registers}
use Rattle.qs_emit_selection.proofs.calls.put_in_registers.Given as goal

abbrev pub invariant-loop-i : goal.invariant-loop-i
invariant-loop-i l =
    l.items.items ++ plain (pass_in_registers (context_tree l.fn.c) l.i (drop l.i l.arguments))
    ≡ l.initial.items.items ++ plain (pass_in_registers (context_tree l.fn.c) 0 l.arguments)
