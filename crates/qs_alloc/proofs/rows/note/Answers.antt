use Rattle.qs_alloc.proofs.RowLaws.{noted_grown}
use Rattle.qs_alloc.proofs.rows.note.Goals as goal

pub returns : goal.returns
returns c = noted_grown _ _ _ _ _ _ c.in_ok-grow.ensures c.index_mut.ensures.value c.in_ok-push.ensures.items
