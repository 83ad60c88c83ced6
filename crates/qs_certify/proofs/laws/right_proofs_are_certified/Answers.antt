use Rattle.qs_certify.proofs.OneLaws.{certified_is_right}
use Rattle.qs_certify.proofs.RefusalLaws.{right_proofs_are_certified, units_without_recursion_are_certified}
use Rattle.qs_certify.proofs.SameFillings.{one_filling_is_enough}
use Rattle.qs_certify.proofs.laws.right_proofs_are_certified.Goals as goal

pub returns-clause-proofs : goal.returns-clause-proofs
returns-clause-proofs c = right_proofs_are_certified

pub returns-clause-units : goal.returns-clause-units
returns-clause-units c = units_without_recursion_are_certified

pub returns-clause-only : goal.returns-clause-only
returns-clause-only c = certified_is_right

pub returns-clause-one_filling : goal.returns-clause-one_filling
returns-clause-one_filling c = one_filling_is_enough
