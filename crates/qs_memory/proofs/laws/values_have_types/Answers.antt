use Rattle.qs_memory.proofs.TypeLaws.{values_have_types}
use Rattle.qs_memory.proofs.laws.values_have_types.Goals as goal

pub returns : goal.returns
returns c = values_have_types
