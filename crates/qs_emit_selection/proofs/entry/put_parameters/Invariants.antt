use Rattle.std.proofs.Common.{◌≡◌, ◌++◌, drop}
use Rattle.qs_asm.specs.Items.{plain}
use Rattle.qs_emit_selection.specs.ContextOf.{context_tree}
use Rattle.qs_emit_selection.specs.Emission.{take_parameters}
use Rattle.qs_emit_selection.proofs.entry.put_parameters.Given as goal

abbrev pub invariant-loop-i : goal.invariant-loop-i
invariant-loop-i l =
    l.items.items ++ plain (take_parameters (context_tree l.fn.c) l.i (drop l.i l.parameters))
    ≡ l.initial.items.items ++ plain (take_parameters (context_tree l.fn.c) 0 l.parameters)
