use Rattle.std.proofs.Common.{◌≡◌, drop}
use Rattle.qs_entail.specs.Building as building
use Rattle.qs_entail.specs.Combining.{and_then}
use Rattle.qs_entail.specs.View.{items_view}
use Rattle.qs_entail.proofs.combination.item_polynomials.Given as goal

abbrev pub invariant-loop-item : goal.invariant-loop-item
invariant-loop-item l = building.item_polynomials (items_view l.items) l.list ≡ and_then l.made.items (building.item_polynomials (items_view (drop l.item-index l.items)) l.list)
