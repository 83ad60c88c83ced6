use Rattle.std.proofs.Common.{◌≤◌, ◌^◌, sym, subst, length, List}
use Rattle.qs_poly.specs.Canonical.{IsCanonical}
use Rattle.qs_poly.specs.declared.terms.Term.{Term}
use Rattle.qs_poly.specs.Terms.{sum_of, AllAtMost}
use Rattle.qs_poly.proofs.Coefficients.{lessened_canonical}
use Rattle.qs_poly.proofs.LimitLaws.{narrow_at_most, few_at_most}
use Rattle.qs_poly.proofs.poly.Poly.less.Goals as goal

pub less_terms-requires : goal.less_terms-requires
less_terms-requires c =
    let v = c.deref.ensures.value in
    let w = c.deref-2.ensures.value in
    record {
      few = subst (λ (xs : List Term). length xs ≤ 64) (sym v) (few_at_most c.self.inside.terms.items c.self.invariant.few_terms);
      narrow_terms = subst (λ xs. AllAtMost (2 ^ 56) (sum_of xs)) (sym v) (narrow_at_most (sum_of c.self.inside.terms.items) c.self.invariant.narrow);
      narrow_others = subst (λ xs. AllAtMost (2 ^ 56) (sum_of xs)) (sym w) (narrow_at_most (sum_of c.b.inside.terms.items) c.b.invariant.narrow);
      canonical_terms = subst (λ xs. IsCanonical (sum_of xs)) (sym v) c.self.invariant.canonical;
      canonical_others = subst (λ xs. IsCanonical (sum_of xs)) (sym w) c.b.invariant.canonical;
    }

pub limited-requires : goal.limited-requires
limited-requires c =
    let x = subst (λ xs. IsCanonical (sum_of xs)) (sym c.deref.ensures.value) c.self.invariant.canonical in
    let y = subst (λ xs. IsCanonical (sum_of xs)) (sym c.deref-2.ensures.value) c.b.invariant.canonical in
    record { canonical = subst IsCanonical (sym c.in_ok-less_terms.ensures) (lessened_canonical (sum_of c.deref.result.now) c.args.k (sum_of c.deref-2.result.now) c.args.c x y) }
