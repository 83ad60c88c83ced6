use Rattle.std.proofs.Common.{◌≡◌, ◌+◌, ◌≤◌, drop}
use Rattle.qs_types.specs.Layout.{defined_structs}
use Rattle.qs_types.specs.StructsOf.{structs_tree}
use Rattle.qs_typed_nodes.proofs.blanks.defined_structs.Given as goal

abbrev pub invariant-loop-s : goal.invariant-loop-s
invariant-loop-s l =
    (defined_structs (structs_tree l.structs) ≡ l.count + defined_structs (structs_tree (drop l.s-index l.structs))) × (l.count ≤ l.s-index)
