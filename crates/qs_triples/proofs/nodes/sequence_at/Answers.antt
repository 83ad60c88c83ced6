use Rattle.std.proofs.Common.{arith}
use Rattle.qs_core.specs.TreeOf.{core_stmt}
use Rattle.qs_triples.proofs.NodeLaws.{has_parts}
use Rattle.qs_triples.proofs.nodes.sequence_at.Goals as goal

pub returns-then-parts-derivations : goal.returns-then-parts-derivations
returns-then-parts-derivations c =
    has_parts c.in-Some.parts.now (core_stmt c.args.s.now) c.args.derivations c.in-Some.ensures (omega arith)
