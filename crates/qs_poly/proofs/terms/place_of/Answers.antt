use Rattle.std.proofs.Common.{◌<◌, ◌+◌, ◌-◌, ◌/◌, ◌∙◌, ap, sym, length, arith}
use Rattle.qs_poly.specs.declared.terms.Term.{Term}
use Rattle.qs_poly.specs.Orders.{monomial_cmp}
use Rattle.qs_poly.proofs.Search.{middle_below, searched_behind, searched_same}
use Rattle.qs_poly.proofs.terms.place_of.Goals as goal

pub returns-in-Equal-clause-place : goal.returns-in-Equal-clause-place
returns-in-Equal-clause-place c k =
    let low = c.loop-low.low in
    let high = c.loop-low.high in
    let below = middle_below low high c.loop-low-test.true in
    let w = c.loop-low.invariant.within in
    let lt : low + (high - low) / 2 < length c.args.terms.now = omega arith in
    searched_same k c.args.monomial.now c.args.terms.now (low + (high - low) / 2) c.index-terms-middle.result c.requires.canonical lt c.index-terms-middle.is (ap (λ (t : Term). monomial_cmp c.args.monomial.now t.monomial) c.index-terms-middle.is ∙ sym c.in-Equal.ensures)

pub loop-low-preserved : goal.loop-low-preserved
loop-low-preserved c =
    let low = c.loop-low.low in
    let high = c.loop-low.high in
    let below = middle_below low high c.loop-low-test.true in
    let w = c.loop-low.invariant.within in
    let lt : low + (high - low) / 2 < length c.args.terms.now = omega arith in
    record {
      order = omega arith;
      within = w;
      front = λ k. searched_behind k c.args.monomial.now c.args.terms.now (low + (high - low) / 2) c.index-terms-middle.result c.requires.canonical lt c.index-terms-middle.is (ap (λ (t : Term). monomial_cmp c.args.monomial.now t.monomial) c.index-terms-middle.is ∙ sym c.in-Greater.ensures);
      back = c.loop-low.invariant.back;
    }
