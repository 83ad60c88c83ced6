use Rattle.qs_count.proofs.CountLaws.{main_count_bounds_calls}
use Rattle.qs_count.proofs.laws.main_count_bounds_calls.Goals as goal

pub returns : goal.returns
returns c = main_count_bounds_calls
