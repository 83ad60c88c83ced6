use Rattle.qs_typing_findings.proofs.Causes.{cause_told}
use Rattle.qs_typing_findings.proofs.laws.first_causes_are_told.Goals as goal

pub returns : goal.returns
returns c = cause_told
