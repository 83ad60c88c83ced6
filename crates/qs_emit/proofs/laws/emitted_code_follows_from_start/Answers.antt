use Rattle.qs_emit.proofs.StartedLaws.{emitted_code_follows_from_start}
use Rattle.qs_emit.proofs.laws.emitted_code_follows_from_start.Goals as goal

pub returns : goal.returns
returns c s arguments w l m start = emitted_code_follows_from_start s arguments w l m start
