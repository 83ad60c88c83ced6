use Rattle.qs_assert.proofs.ValueLaws.{parts_of_their_variables}
use Rattle.qs_assert.proofs.laws.parts_are_of_their_variables.Goals as goal

pub returns : goal.returns
returns c = parts_of_their_variables
