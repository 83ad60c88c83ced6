use Rattle.std.proofs.Common.{◌≡◌, ◌≤◌, ◌^◌, ◌∙◌, sym, subst, length, List, arith}
use Rattle.qs_poly.specs.Canonical.{IsCanonical}
use Rattle.qs_poly.specs.declared.terms.Term.{Term}
use Rattle.qs_poly.specs.Terms.{sum_of, AllAtMost}
use Rattle.qs_poly.proofs.Bounds.{at_most_more}
use Rattle.qs_poly.proofs.Coefficients.{sum_canonical}
use Rattle.qs_poly.proofs.LimitLaws.{narrow_at_most, few_at_most}
use Rattle.qs_poly.proofs.poly.Poly.add.Goals as goal

pub add_terms-requires : goal.add_terms-requires
add_terms-requires c =
    let v = c.deref-2.ensures.value in
    let few : length c.self.inside.terms.items ≤ 64 = few_at_most c.self.inside.terms.items c.self.invariant.few_terms in
    let b : c.in_ok-terms.terms.items ≡ c.b.inside.terms.items = c.in_ok-terms.ensures ∙ c.deref.ensures.value in
    record {
      few = subst (λ (xs : List Term). length xs ≤ 64) (sym v) few;
      narrow = subst (λ xs. AllAtMost (2 ^ 56) (sum_of xs)) (sym v) (narrow_at_most (sum_of c.self.inside.terms.items) c.self.invariant.narrow);
      small = subst (λ xs. AllAtMost (2 ^ 120) (sum_of xs)) (sym b) (at_most_more (2 ^ 56) (2 ^ 120) (sum_of c.b.inside.terms.items) (omega arith) (narrow_at_most (sum_of c.b.inside.terms.items) c.b.invariant.narrow));
      canonical_terms = subst (λ xs. IsCanonical (sum_of xs)) (sym v) c.self.invariant.canonical;
      canonical = subst (λ xs. IsCanonical (sum_of xs)) (sym b) c.b.invariant.canonical;
    }

pub limited-requires : goal.limited-requires
limited-requires c =
    let v = c.deref-2.ensures.value in
    let b : c.in_ok-terms.terms.items ≡ c.b.inside.terms.items = c.in_ok-terms.ensures ∙ c.deref.ensures.value in
    let x = subst (λ xs. IsCanonical (sum_of xs)) (sym v) c.self.invariant.canonical in
    let y = subst (λ xs. IsCanonical (sum_of xs)) (sym b) c.b.invariant.canonical in
    record { canonical = subst IsCanonical (sym c.in_ok-add_terms.ensures) (sum_canonical (sum_of c.deref-2.result.now) (sum_of c.in_ok-terms.terms.items) x y) }
