use Rattle.std.proofs.Common.{◌≡◌, ◌++◌, take, drop}
use Rattle.std.specs.Prelude.{nat_eq, ◌||◌}
use Rattle.std.specs.HashMap.{get}
use Rattle.qs_asm.specs.Sizing.{lengthened, any_out_of_reach}
use Rattle.qs_asm.proofs.sizing.lengthen.Given as goal

abbrev pub invariant-loop-item : goal.invariant-loop-item
invariant-loop-item l =
    (take l.item-index l.items ++ lengthened (get nat_eq l.fn.labels) l.from (drop l.item-index l.items)
    ≡ lengthened (get nat_eq l.fn.labels) 0 l.initial.items)
    × ((l.any || any_out_of_reach (get nat_eq l.fn.labels) l.from (drop l.item-index l.items))
    ≡ any_out_of_reach (get nat_eq l.fn.labels) 0 l.initial.items)
