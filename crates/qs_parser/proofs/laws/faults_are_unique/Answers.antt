use Rattle.qs_parser.proofs.Top.{faults_are_unique}
use Rattle.qs_parser.proofs.laws.faults_are_unique.Goals as goal

pub returns : goal.returns
returns c = faults_are_unique
