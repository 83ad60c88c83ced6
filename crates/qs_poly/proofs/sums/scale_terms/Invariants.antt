use Rattle.std.proofs.Common.{◌≡◌, drop}
use Rattle.qs_poly.specs.Operations.{multiple}
use Rattle.qs_poly.specs.Terms.{sum_of, terms_before}
use Rattle.qs_poly.proofs.sums.scale_terms.Given as goal

abbrev pub invariant-loop-term : goal.invariant-loop-term
invariant-loop-term l = multiple l.k (sum_of l.terms) ≡ terms_before l.multiples.items (multiple l.k (sum_of (drop l.term-index l.terms)))
