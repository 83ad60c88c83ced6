use Rattle.qs_alloc.proofs.RegisterLaws.{marked_more}
use Rattle.qs_alloc.proofs.registers.mark.Goals as goal

pub loop-p-preserved : goal.loop-p-preserved
loop-p-preserved c = marked_more _ _ _ _ _ _ c.loop-p-test.true c.loop-p.invariant c.mark_one.ensures
