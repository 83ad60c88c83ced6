use Rattle.std.proofs.Common.{take}
use Rattle.qs_ports.specs.Memory.{files_in}
use Rattle.qs_ports.specs.StoreView.{IsSameFiles}
use Rattle.qs_ports.specs.Cells.{spans_of}
use Rattle.qs_ports.specs.Shelf.{files_of}
use Rattle.qs_ports.proofs.memory.shelf.Shelf.new.Given as goal

abbrev pub invariant-loop-name : goal.invariant-loop-name
invariant-loop-name l = IsSameFiles (files_in (take l.name-index l.entries)) (files_of l.cells.bytes.items (spans_of l.cells.parts.items))
