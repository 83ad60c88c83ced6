use Rattle.std.proofs.Common.{◌≡◌, ◌+◌, ◌*◌, ◌^◌, drop}
use Rattle.qs_poly.specs.Canonical.{IsCanonical}
use Rattle.qs_poly.specs.Operations.{add_term_product}
use Rattle.qs_poly.specs.Terms.{sum_of, AllAtMost}
use Rattle.qs_poly.proofs.sums.add_term_product.Given as goal

abbrev pub invariant-loop-other : goal.invariant-loop-other
invariant-loop-other l = record {
  same : add_term_product l.term.coefficient l.term.monomial (sum_of l.others) (sum_of l.initial.so_far.items) ≡ add_term_product l.term.coefficient l.term.monomial (sum_of (drop l.other-index l.others)) (sum_of l.so_far.items);
  small : AllAtMost (2 ^ 124 + l.other-index * 2 ^ 112) (sum_of l.so_far.items);
  canonical : IsCanonical (sum_of l.so_far.items);
}
