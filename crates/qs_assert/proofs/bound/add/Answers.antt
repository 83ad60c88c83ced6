use Rattle.std.proofs.Common.{◌∙◌, sym}
use Rattle.indexmap.specs.IndexMap.{insert_entry}
use Rattle.qs_assert.specs.Bounds.{same_name}
use Rattle.qs_assert.proofs.TableLaws.{amount_added}
use Rattle.qs_assert.proofs.bound.add.Goals as goal

pub returns : goal.returns
returns c =
    amount_added c.args.define.now.name _ c.get.result c.args.known.now.entries c.insert.new.self.entries c.get.ensures.value (sym c.is_some.ensures ∙ c.if-is_some.false)
    (c.in_ok-insert.ensures.entries ∙ (λ i. insert_entry same_name c.args.known.now.entries (c.in_ok-copy.ensures i) (c.in_ok-amount.ensures i)))
