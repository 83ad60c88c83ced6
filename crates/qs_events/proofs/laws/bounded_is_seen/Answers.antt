use Rattle.qs_events.proofs.RunLaws.{bounded_is_seen}
use Rattle.qs_events.proofs.laws.bounded_is_seen.Goals as goal

pub returns : goal.returns
returns c d = bounded_is_seen _
