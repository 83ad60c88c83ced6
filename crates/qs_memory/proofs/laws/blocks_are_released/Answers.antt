use Rattle.qs_memory.proofs.BlockLaws.{blocks_are_released}
use Rattle.qs_memory.proofs.laws.blocks_are_released.Goals as goal

pub returns : goal.returns
returns c = blocks_are_released
