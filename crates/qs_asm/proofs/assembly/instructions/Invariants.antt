use Rattle.std.proofs.Common.{◌≡◌, drop}
use Rattle.std.specs.Prelude.{nat_eq}
use Rattle.std.specs.HashMap.{get}
use Rattle.qs_asm.specs.Assembly.{before, code_from}
use Rattle.qs_asm.proofs.assembly.instructions.Given as goal

abbrev pub invariant-loop-item : goal.invariant-loop-item
invariant-loop-item l =
    before l.code.items (code_from (get nat_eq l.fn.labels) l.from (drop l.item-index l.items))
    ≡ code_from (get nat_eq l.fn.labels) 0 l.items
