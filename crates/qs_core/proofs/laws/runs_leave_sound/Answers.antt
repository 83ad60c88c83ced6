use Rattle.qs_core.proofs.RangeLaws.{runs_leave_sound}
use Rattle.qs_core.proofs.laws.runs_leave_sound.Goals as goal

pub returns : goal.returns
returns c = runs_leave_sound
