use Rattle.std.proofs.Common.{◌≡◌, ◌==◌, drop}
use Rattle.indexmap.specs.IndexSet.{insert_all}
use Rattle.qs_typing_findings.specs.Sets.{nodes_once}
use Rattle.qs_typing_findings.proofs.noted.set_of.Given as goal

abbrev pub invariant-loop-n : goal.invariant-loop-n
invariant-loop-n l = nodes_once l.nodes ≡ insert_all ◌==◌ l.set.keys (drop l.n-index l.nodes)
