use Rattle.std.proofs.Common.{◌≡◌, drop}
use Rattle.qs_poly.specs.Limits.{all_narrow}
use Rattle.qs_poly.specs.Terms.{sum_of}
use Rattle.qs_poly.proofs.poly.all_narrow.Given as goal

abbrev pub invariant-loop-term : goal.invariant-loop-term
invariant-loop-term l = all_narrow (sum_of l.terms) ≡ all_narrow (sum_of (drop l.term-index l.terms))
