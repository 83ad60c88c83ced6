use Rattle.qs_driver_proofs.proofs.ToldLaws.{node_is_told}
use Rattle.qs_driver_proofs.proofs.told.mention_spot.Goals as goal

pub returns-in-Node : goal.returns-in-Node
returns-in-Node c = rw c.in-Node.is (node_is_told c.in-Node.path c.path_of.result c.path_of.ensures)
