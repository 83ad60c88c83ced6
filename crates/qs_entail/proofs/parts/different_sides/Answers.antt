use Rattle.std.proofs.Common.{ap, ◌∙◌, sym}
use Rattle.qs_assert.specs.declared.node.CondNode.TheVariants.{Not}
use Rattle.qs_assert.specs.declared.node.Node.{Node}
use Rattle.qs_assert.specs.declared.node.Node.TheVariants.{Condition}
use Rattle.qs_assert.specs.Listing.{cond_nodes}
use Rattle.qs_assert.specs.Reading.{others}
use Rattle.std.proofs.Common.{List}
use Rattle.qs_assert.specs.Views.{begins}
use Rattle.qs_entail.proofs.PartLaws.{ne_parts, eq_parts, not_is}
use Rattle.qs_entail.proofs.parts.different_sides.Goals as goal

pub both_sides-requires : goal.both_sides-requires
both_sides-requires c = ne_parts _ _ _ c.nodes-nodes.ensures (sym c.begins.ensures ∙ c.if-begins.true) c.parts-inner.ensures

pub both_sides-requires-then-begins-3 : goal.both_sides-requires-then-begins-3
both_sides-requires-then-begins-3 c =
    let e = c.nodes-nodes.ensures in
    let d = not_is c.args.c.now (sym (ap (λ (l : List Node). begins l (Condition Not)) e) ∙ (sym c.begins-2.ensures ∙ c.if-begins-2.true)) in
    let inner = c.parts-inner.ensures ∙ (ap others e ∙ ap (λ c. others (cond_nodes c)) d.1) in
    eq_parts d.0 _ _ inner (sym c.begins-then-begins-2.ensures ∙ c.if-begins-3.true) c.parts.ensures
