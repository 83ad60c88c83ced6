use Rattle.qs_typed.proofs.TiedFunctions.{function_kept}
use Rattle.qs_typed.proofs.laws.functions_are_typed.Goals as goal

pub returns : goal.returns
returns c = function_kept
