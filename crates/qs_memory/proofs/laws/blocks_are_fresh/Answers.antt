use Rattle.qs_memory.proofs.BlockLaws.{blocks_are_fresh}
use Rattle.qs_memory.proofs.laws.blocks_are_fresh.Goals as goal

pub returns : goal.returns
returns c = blocks_are_fresh
