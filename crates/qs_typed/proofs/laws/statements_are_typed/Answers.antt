use Rattle.qs_typed.proofs.TiedStatements.{statements_kept}
use Rattle.qs_typed.proofs.laws.statements_are_typed.Goals as goal

pub returns : goal.returns
returns c = statements_kept
