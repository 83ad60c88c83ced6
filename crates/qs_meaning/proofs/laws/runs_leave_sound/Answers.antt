use Rattle.qs_meaning.proofs.RangeLaws.{runs_leave_sound}
use Rattle.qs_meaning.proofs.laws.runs_leave_sound.Goals as goal

pub returns : goal.returns
returns c = runs_leave_sound
