use Rattle.qs_typing_findings.proofs.LatestHeaders.{latest_behind_front}
use Rattle.qs_typing_findings.proofs.laws.functions_are_latest.Goals as goal

pub returns : goal.returns
returns c = λ front. latest_behind_front front
