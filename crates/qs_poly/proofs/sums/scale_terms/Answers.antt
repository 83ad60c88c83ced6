use Rattle.std.proofs.Common.{◌+◌, ◌^◌, ◌∙◌, sym, ap, drop, arith}
use Rattle.std.specs.Int.{w128}
use Rattle.std.proofs.lemmas.Int.{to_z-of_z}
use mir.Val.{to_z, of_z}
use Rattle.qs_poly.specs.Operations.{multiple, plus_unless_zero}
use Rattle.qs_poly.specs.declared.terms.Term.{Term}
use Rattle.qs_poly.specs.Polynomials.{Polynomial}
use Rattle.qs_poly.specs.Terms.{sum_of, terms_before}
use Rattle.qs_poly.proofs.Bounds.{item_at_most}
use Rattle.qs_poly.proofs.Steps.{term_scaled, none_after, nothing_left}
use Rattle.qs_poly.proofs.sums.scale_terms.Goals as goal

pub scale-requires : goal.scale-requires
scale-requires c = record { small = rw (to_z-of_z w128 c.args.k c.ranges.k) c.requires.small; narrow = item_at_most (2 ^ 56) c.args.terms.now c.loop-term.term-index c.term-item.result c.loop-term-test.true c.term-item.is c.requires.narrow }

pub loop-term-preserved : goal.loop-term-preserved
loop-term-preserved c =
    let d = c.term-item.result in
    let i = c.loop-term.term-index in
    let k = to_z w128 (of_z w128 c.args.k) in
    let rest = multiple k (sum_of (drop (i + 1) c.args.terms.now)) in
    let before = c.loop-term.multiples.items in
    c.loop-term.invariant
    ∙ ap (λ (p : Polynomial). terms_before before p) (term_scaled k c.args.terms.now i d c.loop-term-test.true c.term-item.is)
    ∙ ap (λ (t : Term). terms_before before (plus_unless_zero t.coefficient t.monomial rest)) (sym c.in_ok-scale.ensures)
    ∙ sym (c.in_ok-push_unless_zero.ensures rest)

pub returns : goal.returns
returns c =
    let k = to_z w128 (of_z w128 c.args.k) in
    let before = c.loop-term.multiples.items in
    sym (none_after before)
    ∙ ap (λ xs. terms_before before (multiple k (sum_of xs))) (sym (nothing_left c.args.terms.now c.loop-term.term-index (omega arith)))
    ∙ sym c.loop-term.invariant
    ∙ ap (λ z. multiple z (sum_of c.args.terms.now)) (to_z-of_z w128 c.args.k c.ranges.k)
