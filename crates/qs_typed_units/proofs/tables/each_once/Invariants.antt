use Rattle.std.proofs.Common.{◌≡◌, [], drop}
use Rattle.qs_typed_units.specs.KnownPrograms.{each_once}
use Rattle.qs_typed_units.proofs.tables.each_once.Given as goal

abbrev pub invariant-loop-node : goal.invariant-loop-node
invariant-loop-node l = each_once [] l.nodes ≡ each_once l.set.keys (drop l.node-index l.nodes)
