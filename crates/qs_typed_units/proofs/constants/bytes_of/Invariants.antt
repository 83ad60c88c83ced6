use Rattle.std.proofs.Common.{◌≡◌, ◌-◌, ◌++◌, map}
use Rattle.qs_memory.specs.Memory.{bytes_of}
use Rattle.qs_typed_units.specs.CellsOf.{cell_tree}
use Rattle.qs_typed_units.proofs.constants.bytes_of.Given as goal

abbrev pub invariant-loop : goal.invariant-loop
invariant-loop l = map cell_tree l.cells.items ++ bytes_of (l.size - l.counter) l.rest ≡ bytes_of l.size l.n
