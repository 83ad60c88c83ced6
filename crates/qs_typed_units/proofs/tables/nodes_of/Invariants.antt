use Rattle.std.proofs.Common.{◌≡◌, ◌++◌, drop}
use Rattle.qs_typed_units.proofs.tables.nodes_of.Given as goal

abbrev pub invariant-loop-i : goal.invariant-loop-i
invariant-loop-i l = l.set.keys ≡ l.nodes.items ++ drop l.i l.set.keys
