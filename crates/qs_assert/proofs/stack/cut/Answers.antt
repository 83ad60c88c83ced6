use Rattle.std.proofs.Common.{ap, length}
use Rattle.qs_assert.proofs.ListEndLaws.{cut_at}
use Rattle.qs_assert.proofs.stack.cut.Goals as goal

pub returns : goal.returns
returns g c =
    cut_at _ _ c.args.count _ _ (ap length c.deref-items.ensures.value) c.saturating_sub-kept.ensures c.truncate.ensures.items
