use Rattle.qs_count.proofs.CountLaws.{counts_bound_calls}
use Rattle.qs_count.proofs.laws.counts_bound_calls.Goals as goal

pub returns : goal.returns
returns c = counts_bound_calls
