use Rattle.std.proofs.Common.{◌≡◌, ◌++◌, drop, map}
use Rattle.qs_typing_findings.specs.NotedOf.{text_tree}
use Rattle.qs_typed_units.specs.TablesOf.{text_nodes}
use Rattle.qs_typed.proofs.unit.text_nodes.Given as goal

abbrev pub invariant-loop-t : goal.invariant-loop-t
invariant-loop-t l = text_nodes (map text_tree l.texts) ≡ l.nodes.keys ++ text_nodes (map text_tree (drop l.t-index l.texts))
