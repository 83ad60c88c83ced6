use Rattle.qs_meaning.proofs.InitialMemory.{initial_memory_is_sound}
use Rattle.qs_meaning.proofs.laws.initial_memory_is_sound.Goals as goal

pub returns : goal.returns
returns c = initial_memory_is_sound
