use Rattle.qs_analyse.proofs.ValidLaws.{filled_entries_are_valid}
use Rattle.qs_analyse.proofs.laws.filled_entries_are_valid.Goals as goal

pub returns : goal.returns
returns c = filled_entries_are_valid
