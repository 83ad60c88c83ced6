use Rattle.qs_emit.proofs.Owners.{blocks_apart_have_owners}
use Rattle.qs_emit.proofs.laws.blocks_apart_have_owners.Goals as goal

pub returns : goal.returns
returns c m address_of apart block offset live lt = blocks_apart_have_owners m address_of apart block offset live lt
