use Rattle.qs_core.proofs.TypeLaws.{value_is_of}
use Rattle.qs_core.proofs.laws.expressions_have_types.Goals as goal

pub returns : goal.returns
returns c = value_is_of
