use Rattle.std.proofs.Common.{◌≡◌, take}
use Rattle.qs_poly.proofs.terms.copy_terms.Given as goal

abbrev pub invariant-loop-term : goal.invariant-loop-term
invariant-loop-term l = l.to.items ≡ take l.term-index l.from
