use Rattle.std.proofs.Common.{◌≡◌, ◌-◌, length}
use Rattle.qs_asm.specs.Sizing.{turns, sized_items}
use Rattle.qs_asm.proofs.sizing.sized_items.Given as goal

abbrev pub invariant-loop : goal.invariant-loop
invariant-loop l = turns (length l.items - l.counter) l.sized.items ≡ sized_items l.items
