use Rattle.qs_certify.proofs.MainLaws.{bounds_are_needs}
use Rattle.qs_certify.proofs.laws.bounds_are_needs.Goals as goal

pub returns : goal.returns
returns c = bounds_are_needs
