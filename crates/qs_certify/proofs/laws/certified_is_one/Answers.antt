use Rattle.qs_certify.proofs.OneLaws.{one_certified, all_are_derived}
use Rattle.qs_certify.proofs.laws.certified_is_one.Goals as goal

pub returns-clause-one : goal.returns-clause-one
returns-clause-one c = one_certified

pub returns-clause-derived : goal.returns-clause-derived
returns-clause-derived c = all_are_derived
