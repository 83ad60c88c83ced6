use Rattle.qs_entail.proofs.Soundness.{certificates_are_sound}
use Rattle.qs_entail.proofs.laws.certificates_are_sound.Goals as goal

pub returns : goal.returns
returns c = certificates_are_sound
