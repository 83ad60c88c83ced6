use Rattle.qs_typing_findings.proofs.LatestHeaders.{given_behind_front}
use Rattle.qs_typing_findings.proofs.laws.given_functions_keep_types.Goals as goal

pub returns : goal.returns
returns c = λ front. given_behind_front front
