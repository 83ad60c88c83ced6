use Rattle.qs_memory.proofs.ValueLaws.{values_are_sound}
use Rattle.qs_memory.proofs.laws.values_are_sound.Goals as goal

pub returns : goal.returns
returns c = values_are_sound
