use Rattle.qs_ports.proofs.CellScans.{IsScanned}
use Rattle.qs_ports.proofs.memory.cells.Cells.find.Given as goal

abbrev pub invariant-loop-place : goal.invariant-loop-place
invariant-loop-place l = IsScanned l.self.bytes.items l.name l.self.parts.items l.place l.content l.end
