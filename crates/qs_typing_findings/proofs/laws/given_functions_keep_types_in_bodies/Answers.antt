use Rattle.qs_typing_findings.proofs.LatestHeaders.{given_in_body}
use Rattle.qs_typing_findings.proofs.laws.given_functions_keep_types_in_bodies.Goals as goal

pub returns : goal.returns
returns c = λ front f. given_in_body front f
