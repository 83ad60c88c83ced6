use Rattle.qs_emit.proofs.Owners.{lying_blocks_dont_meet}
use Rattle.qs_emit.proofs.laws.lying_blocks_dont_meet.Goals as goal

pub returns : goal.returns
returns c m address_of owner flat lies block other offset place live_block live_other inside there same =
    lying_blocks_dont_meet m address_of owner flat lies block other offset place live_block live_other inside there same
