use Rattle.qs_prooftext_meaning.proofs.OneMeaning.{one, one_proofs, one_fault, not_both}
use Rattle.qs_prooftext.proofs.laws.one_meaning.Goals as goal

pub returns-clause-one : goal.returns-clause-one
returns-clause-one c = one

pub returns-clause-one_proofs : goal.returns-clause-one_proofs
returns-clause-one_proofs c = one_proofs

pub returns-clause-one_fault : goal.returns-clause-one_fault
returns-clause-one_fault c = one_fault

pub returns-clause-not_both : goal.returns-clause-not_both
returns-clause-not_both c = not_both
