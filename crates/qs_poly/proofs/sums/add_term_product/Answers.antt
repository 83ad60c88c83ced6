use Rattle.std.proofs.Common.{◌≡◌, ◌+◌, ◌*◌, ◌^◌, ◌∙◌, sym, ap, subst, drop, arith}
use Rattle.std.specs.Prelude.{◌*ℤ◌, unsigned_abs}
use Rattle.qs_poly.specs.Canonical.{IsCanonical}
use Rattle.qs_poly.specs.Operations.{add_term_product, insert_term, monomial_product}
use Rattle.qs_poly.specs.declared.terms.Term.{Term}
use Rattle.qs_poly.specs.Terms.{sum_of, AllAtMost}
use Rattle.qs_poly.proofs.Bounds.{item_at_most, insert_at_most, at_most_more, product_at_most}
use Rattle.qs_poly.proofs.Coefficients.{insert_canonical, monomial_product_canonical}
use Rattle.qs_poly.proofs.Search.{item_canonical}
use Rattle.qs_poly.proofs.Steps.{term_multiplied}
use Rattle.qs_poly.proofs.sums.add_term_product.Goals as goal

pub multiply-requires : goal.multiply-requires
multiply-requires c = record {
  narrow = c.requires.narrow_term;
  narrow_other = item_at_most (2 ^ 56) c.args.others.now c.loop-other.other-index c.other-item.result c.loop-other-test.true c.other-item.is c.requires.narrow;
}

pub insert_term-requires : goal.insert_term-requires
insert_term-requires c =
    let few = c.requires.few in
    let d = c.other-item.result in
    let narrow = item_at_most (2 ^ 56) c.args.others.now c.loop-other.other-index d c.loop-other-test.true c.other-item.is c.requires.narrow in
    let b = product_at_most (2 ^ 56) (2 ^ 56) c.args.term.now.coefficient d.coefficient c.requires.narrow_term narrow in
    let e = ap (λ (t : Term). unsigned_abs t.coefficient) c.in_ok-multiply.ensures in
    record {
      small = omega arith;
      all_small = at_most_more (2 ^ 124 + c.loop-other.other-index * 2 ^ 112) (2 ^ 125) (sum_of c.loop-other.so_far.items) (omega arith) c.loop-other.invariant.small;
      canonical = c.loop-other.invariant.canonical;
    }

pub loop-other-preserved : goal.loop-other-preserved
loop-other-preserved c =
    let d = c.other-item.result in
    let i = c.loop-other.other-index in
    let old = sum_of c.loop-other.so_far.items in
    let k = c.args.term.now.coefficient in
    let m = c.args.term.now.monomial in
    let narrow = item_at_most (2 ^ 56) c.args.others.now i d c.loop-other-test.true c.other-item.is c.requires.narrow in
    let b = product_at_most (2 ^ 56) (2 ^ 56) k d.coefficient c.requires.narrow_term narrow in
    let e : sum_of c.insert_term.new.terms.items ≡ insert_term (k *ℤ d.coefficient) (monomial_product m d.monomial) old = c.in_ok-insert_term.ensures ∙ ap (λ (t : Term). insert_term t.coefficient t.monomial old) c.in_ok-multiply.ensures in
    record {
      same = c.loop-other.invariant.same ∙ term_multiplied k m c.args.others.now i d old c.loop-other-test.true c.other-item.is ∙ ap (λ q. add_term_product k m (sum_of (drop (i + 1) c.args.others.now)) q) (sym e);
      small =
          let b = insert_at_most (2 ^ 124 + i * 2 ^ 112) (2 ^ 112) (k *ℤ d.coefficient) (monomial_product m d.monomial) old b c.loop-other.invariant.small in
          let n : 2 ^ 124 + i * 2 ^ 112 + 2 ^ 112 ≡ 2 ^ 124 + (i + 1) * 2 ^ 112 = omega arith in
          subst (λ k. AllAtMost k (sum_of c.insert_term.new.terms.items)) n (subst (λ p. AllAtMost (2 ^ 124 + i * 2 ^ 112 + 2 ^ 112) p) (sym e) b);
      canonical =
          let n = monomial_product_canonical m d.monomial c.requires.canonical_term (item_canonical c.args.others.now i d c.loop-other-test.true c.other-item.is c.requires.canonical_others) in
          subst IsCanonical (sym e) (insert_canonical (k *ℤ d.coefficient) (monomial_product m d.monomial) old n c.loop-other.invariant.canonical);
    }
