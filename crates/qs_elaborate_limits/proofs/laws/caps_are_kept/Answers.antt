use Rattle.qs_elaborate_limits.proofs.FrameCaps.{caps_are_kept}
use Rattle.qs_elaborate_limits.proofs.laws.caps_are_kept.Goals as goal

pub returns : goal.returns
returns c = caps_are_kept
