use Rattle.qs_entail.specs.View.{items_view}
use Rattle.qs_prooftext_assertions.proofs.AssertionLaws.{passed_out}
use Rattle.qs_prooftext_assertions.proofs.CombinationLaws.{items_go, items_stop}
use Rattle.qs_prooftext_assertions.proofs.combinations.read_items.Goals as goal

pub returns-in_err-read_item : goal.returns-in_err-read_item
returns-in_err-read_item c = λ ss g h.
    passed_out _ c.from_residual.result c.in_err-read_item.field-0.0 _ c.from_residual.ensures
    (items_stop g c.args.text.now c.items.rest.now c.in-Some.first.now c.in-Some.others.now (items_view c.items.items.items) c.in_err-read_item.field-0.0 _ (c.items.invariant ss g h) c.in-Some.ensures (λ s k. c.in_err-read_item.ensures s g k))

pub items-preserved : goal.items-preserved
items-preserved c = λ ss g h.
    items_go g c.args.text.now c.items.rest.now c.in-Some.first.now c.in-Some.others.now c.items.items.items c.push.new.self.items c.in_ok-read_item.field-0 _ (c.items.invariant ss g h) c.in-Some.ensures (λ s k. c.in_ok-read_item.ensures s g k) c.in_ok-push.ensures.items
