use Rattle.qs_entail.specs.View.{cert_tree}
use Rattle.qs_prooftext.specs.CertHeads.{cert_shape, head_view}
use Rattle.qs_prooftext.proofs.PlantLaws.{planted_more}
use Rattle.qs_prooftext.proofs.planting.build.Goals as goal

pub heads-preserved : goal.heads-preserved
heads-preserved c =
    planted_more cert_shape head_view cert_tree c.heads.left.items c.pop.new.self.items c.in-Some.made c.heads.stack.items c.plant.new.stack.items c.push.new.self.items c.in_ok-tree.tree _ c.in-Some.ensures.items c.in_ok-tree.ensures.made c.in_ok-tree.ensures.left c.in_ok-push.ensures.items c.heads.invariant
