use Rattle.qs_assert.proofs.ValueLaws.{images_give_values}
use Rattle.qs_assert.proofs.laws.images_give_values.Goals as goal

pub returns : goal.returns
returns c = images_give_values
