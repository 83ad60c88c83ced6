use Rattle.std.proofs.Common.{◌^◌, sym, subst, arith}
use Rattle.std.proofs.lemmas.Int.{ints}
use Rattle.qs_poly.specs.Canonical.{IsCanonical}
use Rattle.qs_poly.specs.Terms.{sum_of, AllAtMost}
use Rattle.qs_poly.proofs.Coefficients.{multiple_canonical}
use Rattle.qs_poly.proofs.LimitLaws.{narrow_at_most}
use Rattle.qs_poly.proofs.poly.Poly.times.Goals as goal

pub scale_terms-requires : goal.scale_terms-requires
scale_terms-requires c = record {
  small = let r = c.ranges.n in omega (arith, ints);
  narrow = subst (λ xs. AllAtMost (2 ^ 56) (sum_of xs)) (sym c.deref.ensures.value) (narrow_at_most (sum_of c.self.inside.terms.items) c.self.invariant.narrow);
}

pub limited-requires : goal.limited-requires
limited-requires c =
    let x = subst (λ xs. IsCanonical (sum_of xs)) (sym c.deref.ensures.value) c.self.invariant.canonical in
    record { canonical = subst IsCanonical (sym c.in_ok-scale_terms.ensures) (multiple_canonical _ (sum_of c.deref.result.now) x) }
