use Rattle.std.proofs.Common.{◌≡◌, take}
use Rattle.qs_poly.proofs.monomial.copy_atoms.Given as goal

abbrev pub invariant-loop-atom : goal.invariant-loop-atom
invariant-loop-atom l = l.to.items ≡ take l.atom-index l.from
