use Rattle.std.proofs.Common.{◌≡◌, drop}
use Rattle.qs_poly.specs.Operations.{monomial_product}
use Rattle.qs_poly.specs.Views.{product_of}
use Rattle.qs_poly.proofs.monomial.multiply_atoms.Given as goal

abbrev pub invariant-loop-atom : goal.invariant-loop-atom
invariant-loop-atom l = monomial_product (product_of l.from) (product_of l.initial.product.items) ≡ monomial_product (product_of (drop l.atom-index l.from)) (product_of l.product.items)
