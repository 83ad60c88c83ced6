use Rattle.std.proofs.Common.{ap, sym, ◌∙◌, List}
use Rattle.qs_assert.specs.declared.node.TermNode.{TermNode}
use Rattle.qs_assert.specs.Listing.{term_nodes}
use Rattle.qs_assert.specs.Shapes.{are_terms}
use Rattle.qs_assert.proofs.ShapeLaws.{term_there, none_there}
use Rattle.qs_assert.proofs.tree.Term.read.Goals as goal

pub from_nodes-requires : goal.from_nodes-requires
from_nodes-requires c =
    term_there c.args.nodes.items c.is_one_term.result (c.is_one_term.ensures ∙ ap (λ (l : List TermNode). are_terms l 1) c.deref.ensures.value) c.if-is_one_term.true

pub returns-then-is_one_term : goal.returns-then-is_one_term
returns-then-is_one_term c =
    let t = term_there c.args.nodes.items c.is_one_term.result (c.is_one_term.ensures ∙ ap (λ (l : List TermNode). are_terms l 1) c.deref.ensures.value) c.if-is_one_term.true in
    t.1 ∙ ap term_nodes (sym (c.from_nodes.ensures t.0 t.1))

pub returns-else-is_one_term : goal.returns-else-is_one_term
returns-else-is_one_term c =
    none_there c.args.nodes.items c.is_one_term.result (c.is_one_term.ensures ∙ ap (λ (l : List TermNode). are_terms l 1) c.deref.ensures.value) c.if-is_one_term.false
