use Rattle.qs_alloc.proofs.RegisterLaws.{marked_set}
use Rattle.qs_alloc.proofs.registers.mark_one.Goals as goal

pub returns : goal.returns
returns c = marked_set _ _ _ c.requires.here c.requires.register
