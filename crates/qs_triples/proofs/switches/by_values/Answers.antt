use Rattle.std.proofs.Common.{◌≡◌, ℕ, ◌+◌, ◌++◌, suc, List, drop, ap, ◌∙◌, arith, rules}
use Rattle.qs_assert.specs.declared.node.Node.{Node}
use Rattle.qs_assert.specs.Listing.{assertion_nodes}
use Rattle.qs_triples.specs.Rules.{by_values}
use Rattle.qs_triples.specs.Switches.{before_view}
use Rattle.qs_triples.proofs.LabelLaws.{values_at}
use Rattle.qs_triples.proofs.switches.by_values.Goals as goal

pub loop-label-preserved : goal.loop-label-preserved
loop-label-preserved c =
    let i = c.loop-label.label-index in
    let rest : ℕ → List Node = λ k. assertion_nodes (by_values c.args.d.now (before_view c.args.b) c.args.s c.args.t.now (drop k c.args.labels.now)) in
    let next : i + 1 ≡ suc i = omega arith in
    ap (λ (k : ℕ). c.put_case.new.nodes.items ++ rest k) next
    ∙ ap (λ (nodes : List Node). nodes ++ rest (suc i)) c.in_ok-put_case.ensures
    ∙ values_at c.args.d.now (before_view c.args.b) c.args.s c.args.t.now c.args.labels.now i _ c.loop-label-test.true (search rules) c.loop-label.nodes.items
    ∙ c.loop-label.invariant
