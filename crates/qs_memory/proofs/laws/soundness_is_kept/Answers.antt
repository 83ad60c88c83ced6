use Rattle.qs_memory.proofs.SoundLaws.{soundness_is_kept}
use Rattle.qs_memory.proofs.laws.soundness_is_kept.Goals as goal

pub returns : goal.returns
returns c = soundness_is_kept
