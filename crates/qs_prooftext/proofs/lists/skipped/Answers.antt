use Rattle.std.proofs.Common.{arith}
use Rattle.qs_prooftext.proofs.HeadLaws.{tails_more}
use Rattle.qs_prooftext.proofs.lists.skipped.Goals as goal

pub loop-i-preserved : goal.loop-i-preserved
loop-i-preserved c =
    let s = c.after_first-left.ensures.shorter in
    let i = c.loop-i.invariant.shorter in
    record {
      stand = λ text ss h. tails_more text c.after_first-left.result.now c.loop-i._i ss (c.after_first-left.ensures.stand text _ (c.loop-i.invariant.stand text ss h));
      shorter = omega (arith, s, i);
    }
