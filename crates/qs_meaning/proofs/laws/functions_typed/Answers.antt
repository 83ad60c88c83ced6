use Rattle.qs_meaning.proofs.FunctionsTyped.{functions_typed}
use Rattle.qs_meaning.proofs.laws.functions_typed.Goals as goal

pub returns : goal.returns
returns c = functions_typed
