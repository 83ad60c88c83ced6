use Rattle.std.proofs.Common.{◌≡◌, drop}
use Rattle.qs_poly.specs.Polynomials.{nothing}
use Rattle.qs_entail.specs.Building as building
use Rattle.qs_entail.proofs.combination.sum_all.Given as goal

abbrev pub invariant-loop-poly : goal.invariant-loop-poly
invariant-loop-poly l = building.sum_all nothing l.list ≡ building.sum_all l.sum (drop l.poly-index l.list)
