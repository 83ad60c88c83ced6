use Rattle.qs_typed.proofs.UnitBlocks.{blocks_typed}
use Rattle.qs_typed.proofs.laws.unit_blocks_are_typed.Goals as goal

pub returns : goal.returns
returns c = blocks_typed
