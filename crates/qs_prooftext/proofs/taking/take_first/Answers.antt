use Rattle.qs_prooftext.proofs.PlantLaws.{first_taken, others_taken}
use Rattle.qs_prooftext.proofs.taking.take_first.Goals as goal

pub returns-clause-first : goal.returns-clause-first
returns-clause-first g c = first_taken g.T.Subtree.tree g.T.Subtree.blank c.args.stack.now.items c.take_first.result c.missing.result c.take_first.ensures.value c.missing.ensures

pub returns-clause-left : goal.returns-clause-left
returns-clause-left g c = others_taken g.T.Subtree.tree c.args.stack.now.items c.take_first.new.stack.items c.take_first.ensures.left
