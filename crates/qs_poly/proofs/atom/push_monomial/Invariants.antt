use Rattle.std.proofs.Common.{◌≡◌, ◌++◌, drop}
use Rattle.qs_poly.specs.Codes.{monomial_code}
use Rattle.qs_poly.specs.Views.{product_of}
use Rattle.qs_poly.proofs.atom.push_monomial.Given as goal

abbrev pub invariant-loop-atom : goal.invariant-loop-atom
invariant-loop-atom l = l.nodes.items ++ monomial_code (product_of (drop l.atom-index l.atom-items)) ≡ l.initial.nodes.items ++ monomial_code (product_of l.atom-items)
