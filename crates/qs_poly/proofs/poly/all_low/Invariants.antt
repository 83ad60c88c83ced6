use Rattle.std.proofs.Common.{◌≡◌, drop}
use Rattle.qs_poly.specs.Limits.{all_low}
use Rattle.qs_poly.specs.Terms.{sum_of}
use Rattle.qs_poly.proofs.poly.all_low.Given as goal

abbrev pub invariant-loop-term : goal.invariant-loop-term
invariant-loop-term l = all_low (sum_of l.terms) ≡ all_low (sum_of (drop l.term-index l.terms))
