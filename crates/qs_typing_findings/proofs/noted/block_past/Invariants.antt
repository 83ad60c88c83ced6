use Rattle.std.proofs.Common.{◌≡◌, ◌≤◌, drop, map}
use Rattle.qs_types.specs.Limits.{block_past}
use Rattle.qs_typing_findings.specs.NotedOf.{block_tree}
use Rattle.qs_typing_findings.proofs.noted.block_past.Given as goal

abbrev pub invariant-loop-b : goal.invariant-loop-b
invariant-loop-b l = record {
  past : block_past l.limit 0 (map block_tree l.blocks) ≡ block_past l.limit l.end (map block_tree (drop l.b-index l.blocks));
  within : l.end ≤ l.limit;
}
