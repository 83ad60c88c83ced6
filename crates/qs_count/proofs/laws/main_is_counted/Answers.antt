use Rattle.qs_count.proofs.CountLaws.{main_is_counted}
use Rattle.qs_count.proofs.laws.main_is_counted.Goals as goal

pub returns : goal.returns
returns c = main_is_counted
