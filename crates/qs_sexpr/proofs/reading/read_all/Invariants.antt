use Rattle.std.proofs.Common.{◌≡◌, ◌≤◌, ◌-◌, List, length, drop}
use Rattle.qs_sexpr.specs.Trees.{Sexp}
use Rattle.qs_sexpr.specs.Scan.{Layer, scan, scanned}
use Rattle.qs_sexpr.specs.Readers.{Holds}
use Rattle.qs_sexpr.proofs.reading.read_all.Given as goal

abbrev pub invariant-loop-at : goal.invariant-loop-at
invariant-loop-at l = (outer : List Layer) × (done : List Sexp) × Holds l.reader outer done × (l.at ≤ length l.text) × (length l.reader.nodes.items ≤ l.at) × (scan outer done l.at 0 (drop l.at l.text) ≡ scanned l.text)

abbrev pub decreases-loop-at : goal.decreases-loop-at
decreases-loop-at l = length l.text - l.at
