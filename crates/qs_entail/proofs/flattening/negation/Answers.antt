use Rattle.std.proofs.Common.{◌∙◌, sym}
use Rattle.qs_entail.proofs.PartLaws.{le_parts, lt_parts, ne_parts}
use Rattle.qs_entail.proofs.flattening.negation.Goals as goal

pub both_sides-requires : goal.both_sides-requires
both_sides-requires c = le_parts _ _ _ c.nodes-nodes.ensures (sym c.begins.ensures ∙ c.if-begins.true) c.parts.ensures

pub both_sides-requires-then-begins-2 : goal.both_sides-requires-then-begins-2
both_sides-requires-then-begins-2 c = lt_parts _ _ _ c.nodes-nodes.ensures (sym c.begins-2.ensures ∙ c.if-begins-2.true) c.parts-then-begins-2.ensures

pub both_sides-requires-then-begins-3 : goal.both_sides-requires-then-begins-3
both_sides-requires-then-begins-3 c = ne_parts _ _ _ c.nodes-nodes.ensures (sym c.begins-3.ensures ∙ c.if-begins-3.true) c.parts-then-begins-3.ensures
