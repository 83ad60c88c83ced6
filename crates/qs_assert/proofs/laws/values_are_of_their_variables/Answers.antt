use Rattle.qs_assert.proofs.VariableLaws.{of_its_variables}
use Rattle.qs_assert.proofs.laws.values_are_of_their_variables.Goals as goal

pub returns : goal.returns
returns c = of_its_variables
