use Rattle.qs_meaning.proofs.Labels.{cases_have_values}
use Rattle.qs_meaning.proofs.laws.cases_have_values.Goals as goal

pub returns : goal.returns
returns c = cases_have_values
