use Rattle.std.proofs.Common.{◌≡◌, drop}
use Rattle.qs_entail.specs.Verdicts.{are_counted}
use Rattle.qs_entail.specs.View.{items_view}
use Rattle.qs_entail.proofs.combination.are_counted.Given as goal

abbrev pub invariant-loop-item : goal.invariant-loop-item
invariant-loop-item l = are_counted (items_view l.items) l.count ≡ are_counted (items_view (drop l.item-index l.items)) l.count
