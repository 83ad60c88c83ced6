use Rattle.qs_core.specs.UnitTrees.{unit_tree}
use Rattle.qs_triples.specs.TreeOf.{proofs_tree}
use Rattle.qs_certify.proofs.EntryLaws.{one_told}
use Rattle.qs_certify.proofs.entries.check_entry.Goals as goal

pub returns-in-Err : goal.returns-in-Err
returns-in-Err c = rw c.refused.ensures (one_told c.args.resource (unit_tree c.args.unit.now) (proofs_tree c.args.proofs.now) c.args.f c.in-Err.fault c.in-Err.ensures.exact)
