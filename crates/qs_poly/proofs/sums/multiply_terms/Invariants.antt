use Rattle.std.proofs.Common.{◌≡◌, ◌*◌, ◌^◌, drop}
use Rattle.qs_poly.specs.Canonical.{IsCanonical}
use Rattle.qs_poly.specs.Operations.{product, add_product}
use Rattle.qs_poly.specs.Terms.{sum_of, AllAtMost}
use Rattle.qs_poly.proofs.sums.multiply_terms.Given as goal

abbrev pub invariant-loop-term : goal.invariant-loop-term
invariant-loop-term l = record {
  same : product (sum_of l.terms) (sum_of l.others) ≡ add_product (sum_of (drop l.term-index l.terms)) (sum_of l.others) (sum_of l.so_far.items);
  small : AllAtMost (l.term-index * 2 ^ 118) (sum_of l.so_far.items);
  canonical : IsCanonical (sum_of l.so_far.items);
}
