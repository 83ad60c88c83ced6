use Rattle.std.proofs.Common.{arith}
use Rattle.qs_core.specs.TreeOf.{core_stmt}
use Rattle.qs_triples.proofs.NodeLaws.{has_cases}
use Rattle.qs_triples.proofs.nodes.switch_at.Goals as goal

pub returns-then-parts-derivations : goal.returns-then-parts-derivations
returns-then-parts-derivations c =
    has_cases c.in-Some.cases (core_stmt c.args.s.now) c.args.derivations c.in-Some.ensures (omega arith)
