use Rattle.qs_count.proofs.CountLaws.{entries_bound_calls}
use Rattle.qs_count.proofs.laws.entries_bound_calls.Goals as goal

pub returns : goal.returns
returns c = entries_bound_calls
