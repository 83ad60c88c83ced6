use Rattle.std.proofs.Common.{◌≡◌, ◌+◌, ◌*◌, ◌^◌, ◌∙◌, sym, ap, subst, drop, length, arith}
use Rattle.qs_poly.specs.Canonical.{IsCanonical}
use Rattle.qs_poly.specs.Operations.{add_product, add_term_product}
use Rattle.qs_poly.specs.Terms.{sum_of, AllAtMost}
use Rattle.qs_poly.proofs.Bounds.{item_at_most, at_most_more, term_product_at_most}
use Rattle.qs_poly.proofs.Coefficients.{term_product_canonical}
use Rattle.qs_poly.proofs.Search.{item_canonical}
use Rattle.qs_poly.proofs.Steps.{product_added}
use Rattle.qs_poly.proofs.sums.multiply_terms.Goals as goal

pub add_term_product-requires : goal.add_term_product-requires
add_term_product-requires c =
    let few = c.requires.few_terms in
    record {
      narrow_term = item_at_most (2 ^ 56) c.args.terms.now c.loop-term.term-index c.term-item.result c.loop-term-test.true c.term-item.is c.requires.narrow_terms;
      few = c.requires.few_others;
      narrow = c.requires.narrow_others;
      small = at_most_more (c.loop-term.term-index * 2 ^ 118) (2 ^ 124) (sum_of c.loop-term.so_far.items) (omega arith) c.loop-term.invariant.small;
      canonical_term = item_canonical c.args.terms.now c.loop-term.term-index c.term-item.result c.loop-term-test.true c.term-item.is c.requires.canonical_terms;
      canonical_others = c.requires.canonical_others;
      canonical = c.loop-term.invariant.canonical;
    }

pub loop-term-preserved : goal.loop-term-preserved
loop-term-preserved c =
    let d = c.term-item.result in
    let i = c.loop-term.term-index in
    let old = sum_of c.loop-term.so_far.items in
    let few = c.requires.few_others in
    let narrow = item_at_most (2 ^ 56) c.args.terms.now i d c.loop-term-test.true c.term-item.is c.requires.narrow_terms in
    let e : sum_of c.add_term_product.new.so_far.items ≡ add_term_product d.coefficient d.monomial (sum_of c.args.others.now) old = c.in_ok-add_term_product.ensures in
    record {
      same = c.loop-term.invariant.same ∙ product_added c.args.terms.now i d (sum_of c.args.others.now) old c.loop-term-test.true c.term-item.is ∙ ap (λ q. add_product (sum_of (drop (i + 1) c.args.terms.now)) (sum_of c.args.others.now) q) (sym e);
      small =
          let b = term_product_at_most (i * 2 ^ 118) d.coefficient d.monomial c.args.others.now old narrow c.requires.narrow_others c.loop-term.invariant.small in
          let b' = subst (λ p. AllAtMost (i * 2 ^ 118 + length c.args.others.now * 2 ^ 112) p) (sym e) b in
          at_most_more (i * 2 ^ 118 + length c.args.others.now * 2 ^ 112) ((i + 1) * 2 ^ 118) (sum_of c.add_term_product.new.so_far.items) (omega arith) b';
      canonical =
          let m = item_canonical c.args.terms.now i d c.loop-term-test.true c.term-item.is c.requires.canonical_terms in
          subst IsCanonical (sym e) (term_product_canonical d.coefficient d.monomial (sum_of c.args.others.now) old m c.requires.canonical_others c.loop-term.invariant.canonical);
    }
