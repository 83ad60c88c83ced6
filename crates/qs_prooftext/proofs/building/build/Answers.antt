use Rattle.qs_triples.specs.TreeOf.{derivation_tree}
use Rattle.qs_prooftext.specs.DerivationHeads.{derivation_shape, derivation_head}
use Rattle.qs_prooftext.proofs.PlantLaws.{planted_more}
use Rattle.qs_prooftext.proofs.building.build.Goals as goal

pub heads-preserved : goal.heads-preserved
heads-preserved c =
    planted_more derivation_shape derivation_head derivation_tree c.heads.left.items c.pop.new.self.items c.in-Some.made c.heads.stack.items c.plant.new.stack.items c.push.new.self.items c.in_ok-tree.tree _ c.in-Some.ensures.items c.in_ok-tree.ensures.made c.in_ok-tree.ensures.left c.in_ok-push.ensures.items c.heads.invariant
