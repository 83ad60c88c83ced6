use Rattle.qs_analyse.proofs.MeetLaws.{calls_meet_specs}
use Rattle.qs_analyse.proofs.laws.calls_meet_specs.Goals as goal

pub returns : goal.returns
returns c = calls_meet_specs
