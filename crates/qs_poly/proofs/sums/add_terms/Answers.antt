use Rattle.std.proofs.Common.{◌≡◌, ◌+◌, ◌*◌, ◌^◌, ◌∙◌, sym, ap, subst, drop, arith}
use Rattle.std.specs.Prelude.{unsigned_abs}
use Rattle.qs_poly.specs.Canonical.{IsCanonical}
use Rattle.qs_poly.specs.Operations.{sum, insert_term}
use Rattle.qs_poly.specs.declared.terms.Term.{Term}
use Rattle.qs_poly.specs.Terms.{sum_of, AllAtMost}
use Rattle.qs_poly.proofs.Bounds.{item_at_most, insert_at_most, at_most_more}
use Rattle.qs_poly.proofs.Coefficients.{insert_canonical}
use Rattle.qs_poly.proofs.Search.{item_canonical}
use Rattle.qs_poly.proofs.Steps.{term_added}
use Rattle.qs_poly.proofs.sums.add_terms.Goals as goal

pub insert_term-requires : goal.insert_term-requires
insert_term-requires c =
    let few = c.requires.few in
    let t = c.in_ok-copy.field-0 in
    let narrow = item_at_most (2 ^ 56) c.args.terms.now c.loop-term.term-index c.term-item.result c.loop-term-test.true c.term-item.is c.requires.narrow in
    let e = ap (λ (t : Term). unsigned_abs t.coefficient) c.in_ok-copy.ensures in
    record {
      small = omega arith;
      all_small = at_most_more (2 ^ 120 + c.loop-term.term-index * 2 ^ 56) (2 ^ 125) (sum_of c.loop-term.so_far.items) (omega arith) c.loop-term.invariant.small;
      canonical = c.loop-term.invariant.canonical;
    }

pub loop-term-preserved : goal.loop-term-preserved
loop-term-preserved c =
    let d = c.term-item.result in
    let i = c.loop-term.term-index in
    let old = sum_of c.loop-term.so_far.items in
    let narrow = item_at_most (2 ^ 56) c.args.terms.now i d c.loop-term-test.true c.term-item.is c.requires.narrow in
    let e : sum_of c.insert_term.new.terms.items ≡ insert_term d.coefficient d.monomial old = c.in_ok-insert_term.ensures ∙ ap (λ (t : Term). insert_term t.coefficient t.monomial old) c.in_ok-copy.ensures in
    record {
      same = c.loop-term.invariant.same ∙ term_added c.args.terms.now i d old c.loop-term-test.true c.term-item.is ∙ ap (λ q. sum (sum_of (drop (i + 1) c.args.terms.now)) q) (sym e);
      small =
          let b = insert_at_most (2 ^ 120 + i * 2 ^ 56) (2 ^ 56) d.coefficient d.monomial old narrow c.loop-term.invariant.small in
          let n : 2 ^ 120 + i * 2 ^ 56 + 2 ^ 56 ≡ 2 ^ 120 + (i + 1) * 2 ^ 56 = omega arith in
          subst (λ k. AllAtMost k (sum_of c.insert_term.new.terms.items)) n (subst (λ p. AllAtMost (2 ^ 120 + i * 2 ^ 56 + 2 ^ 56) p) (sym e) b);
      canonical = subst IsCanonical (sym e) (insert_canonical d.coefficient d.monomial old (item_canonical c.args.terms.now i d c.loop-term-test.true c.term-item.is c.requires.canonical_terms) c.loop-term.invariant.canonical);
    }
