use Rattle.qs_certify.proofs.MetLaws.{faults_are_of_functions}
use Rattle.qs_certify.proofs.laws.faults_are_of_functions.Goals as goal

pub returns : goal.returns
returns c = faults_are_of_functions
