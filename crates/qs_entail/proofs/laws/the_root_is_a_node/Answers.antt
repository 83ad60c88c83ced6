use Rattle.qs_entail.proofs.OneVerdict.{one_fault}
use Rattle.qs_entail.proofs.laws.the_root_is_a_node.Goals as goal

pub returns : goal.returns
returns c = one_fault
