use Rattle.qs_driver_calls.proofs.PlainWords.{counts_are_bounds}
use Rattle.qs_driver_calls.proofs.laws.counts_are_bounds.Goals as goal

pub returns : goal.returns
returns c = counts_are_bounds
