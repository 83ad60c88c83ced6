use borrow.Author.Count.{below_more}
use Rattle.std.proofs.Common.{arith}
use Rattle.qs_alloc.proofs.RegisterLaws.{all_taken}
use Rattle.qs_alloc.proofs.registers.choose.Goals as goal

pub loop-r-2-preserved : goal.loop-r-2-preserved
loop-r-2-preserved c = below_more _ _ c.loop-r-2.invariant (c.is_free-in-loop-r-2.ensures.taken c.if-is_free-2.false)

pub returns : goal.returns
returns c = all_taken c.args.crosses c.args.taken (λ q m. c.loop-r-2.invariant q (omega arith))
