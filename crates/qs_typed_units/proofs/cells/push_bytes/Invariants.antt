use Rattle.std.proofs.Common.{◌≡◌, ◌++◌, map, drop}
use Rattle.qs_memory.specs.Memory.{byte}
use Rattle.qs_typed_units.specs.CellsOf.{cell_tree}
use Rattle.qs_typed_units.proofs.cells.push_bytes.Given as goal

abbrev pub invariant-loop-b : goal.invariant-loop-b
invariant-loop-b l = map cell_tree l.cells.items ++ map byte (drop l.b-index l.bytes) ≡ map cell_tree l.initial.cells.items ++ map byte l.bytes
