use Rattle.qs_typing_findings.proofs.LatestHeaders.{latest_in_body}
use Rattle.qs_typing_findings.proofs.laws.functions_are_latest_in_bodies.Goals as goal

pub returns : goal.returns
returns c = λ front f. latest_in_body front f
