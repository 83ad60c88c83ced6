use Rattle.std.proofs.Common.{◌≡◌, ◌+◌, ◌*◌, ◌^◌, drop}
use Rattle.qs_poly.specs.Canonical.{IsCanonical}
use Rattle.qs_poly.specs.Operations.{sum}
use Rattle.qs_poly.specs.Terms.{sum_of, AllAtMost}
use Rattle.qs_poly.proofs.sums.add_terms.Given as goal

abbrev pub invariant-loop-term : goal.invariant-loop-term
invariant-loop-term l = record {
  same : sum (sum_of l.terms) (sum_of l.initial.so_far.items) ≡ sum (sum_of (drop l.term-index l.terms)) (sum_of l.so_far.items);
  small : AllAtMost (2 ^ 120 + l.term-index * 2 ^ 56) (sum_of l.so_far.items);
  canonical : IsCanonical (sum_of l.so_far.items);
}
