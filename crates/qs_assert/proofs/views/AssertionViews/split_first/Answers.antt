use Rattle.std.proofs.Common.{◌∙◌, ◌∷◌, sym}
use Rattle.qs_assert.proofs.ViewLaws.{none_in, split, split_first, split_others, split_all}
use Rattle.qs_assert.proofs.views.AssertionViews.split_first.Goals as goal

pub returns-then-is_empty : goal.returns-then-is_empty
returns-then-is_empty c = sym c.self.view_is ∙ none_in _ (sym c.if-is_empty.true ∙ c.is_empty.ensures)

pub from_nodes-first-requires : goal.from_nodes-first-requires
from_nodes-first-requires c =
    let s = split _ _ c.self.invariant (sym c.if-is_empty.false ∙ c.is_empty.ensures) in
    (s.first, c.split_tree.ensures.first ∙ split_first _ s)

pub from_nodes-requires : goal.from_nodes-requires
from_nodes-requires c =
    let s = split _ _ c.self.invariant (sym c.if-is_empty.false ∙ c.is_empty.ensures) in
    (s.left, c.split_tree.ensures.others ∙ split_others _ s)

pub returns : goal.returns
returns c =
    let s = split _ _ c.self.invariant (sym c.if-is_empty.false ∙ c.is_empty.ensures) in
    let first = c.from_nodes-first.ensures s.first (c.split_tree.ensures.first ∙ split_first _ s) in
    let others = c.from_nodes.ensures s.left (c.split_tree.ensures.others ∙ split_others _ s) in
    sym c.self.view_is ∙ (split_all _ s ∙ (λ i. sym first i ∷ sym others i))
