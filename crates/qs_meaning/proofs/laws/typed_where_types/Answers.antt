use Rattle.qs_meaning.proofs.TypedExpressions.{typed_where_types}
use Rattle.qs_meaning.proofs.laws.typed_where_types.Goals as goal

pub returns : goal.returns
returns c = typed_where_types
