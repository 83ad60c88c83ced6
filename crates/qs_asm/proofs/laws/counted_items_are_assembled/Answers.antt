use Rattle.qs_asm.proofs.CountingLaws.{counted_items_are_assembled}
use Rattle.qs_asm.proofs.laws.counted_items_are_assembled.Goals as goal

pub returns : goal.returns
returns c = counted_items_are_assembled
