use Rattle.qs_frames.proofs.OffsetLaws.{GivesStarts}
use Rattle.qs_frames.proofs.blocks.laid_from.Given as goal
use Rattle.std.proofs.Common.{drop}

abbrev pub invariant-loop-size : goal.invariant-loop-size
invariant-loop-size l = GivesStarts l.fn.first l.sizes l.at.items l.end (drop l.size-index l.sizes)
