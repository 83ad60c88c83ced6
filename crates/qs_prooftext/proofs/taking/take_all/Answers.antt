use Rattle.std.proofs.Common.{arith, ◌≡◌, ◌-◌, suc, map, reverse}
use Rattle.qs_prooftext.proofs.PlantLaws.{taken_more, behind_more}
use Rattle.qs_prooftext.proofs.taking.take_all.Goals as goal

pub parts-preserved : goal.parts-preserved
parts-preserved g c =
    let l : c.parts.left ≡ suc (c.parts.left - 1) = omega arith in
    let tree = g.T.Subtree.tree in
    record {
      first = taken_more tree g.T.Subtree.blank c.parts.left (c.parts.left - 1) c.parts.parts.items c.push.new.self.items c.take_first.result (reverse (map tree c.parts.stack.items)) (reverse (map tree c.take_first.new.stack.items)) _ l c.in_ok-push.ensures.items c.take_first.ensures.first c.take_first.ensures.left c.parts.invariant.first;
      kept = behind_more c.parts.left (c.parts.left - 1) (reverse (map tree c.parts.stack.items)) (reverse (map tree c.take_first.new.stack.items)) _ l c.take_first.ensures.left c.parts.invariant.kept;
    }
