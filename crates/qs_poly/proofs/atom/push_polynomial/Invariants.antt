use Rattle.std.proofs.Common.{◌≡◌, ◌++◌, drop}
use Rattle.qs_poly.specs.Codes.{polynomial_code}
use Rattle.qs_poly.specs.Terms.{sum_of}
use Rattle.qs_poly.proofs.atom.push_polynomial.Given as goal

abbrev pub invariant-loop-term : goal.invariant-loop-term
invariant-loop-term l = l.nodes.items ++ polynomial_code (sum_of (drop l.term-index l.term-items)) ≡ l.initial.nodes.items ++ polynomial_code (sum_of l.term-items)
