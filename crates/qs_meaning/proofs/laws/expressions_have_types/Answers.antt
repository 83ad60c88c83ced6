use Rattle.qs_meaning.proofs.RangeLaws.{expressions_have_types}
use Rattle.qs_meaning.proofs.laws.expressions_have_types.Goals as goal

pub returns : goal.returns
returns c = expressions_have_types
