use Rattle.std.proofs.Common.{◌≡◌, ◌++◌, map, drop}
use Rattle.qs_asm.specs.Sizing.{shortest_item}
use Rattle.qs_asm.proofs.sizing.shortest_items.Given as goal

abbrev pub invariant-loop-item : goal.invariant-loop-item
invariant-loop-item l = l.sized.items ++ map shortest_item (drop l.item-index l.items) ≡ map shortest_item l.items
