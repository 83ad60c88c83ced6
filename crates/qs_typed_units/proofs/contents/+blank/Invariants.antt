use Rattle.std.proofs.Common.{◌≡◌, ◌++◌, map, drop}
use Rattle.qs_memory.specs.BlankOf.{blank_tree, joined_of}
use Rattle.qs_memory.specs.Memory.{blank_cells, times}
use Rattle.qs_typed_units.specs.CellsOf.{contents_tree}
use Rattle.qs_typed_units.proofs.contents.+blank.Given as goal

abbrev pub invariant-put_blank-loop : goal.invariant-put_blank-loop
invariant-put_blank-loop l = contents_tree l.contents ≡ contents_tree l.initial.contents ++ times l.counter (blank_cells (blank_tree l.part.value))

abbrev pub invariant-put_blanks-loop-part : goal.invariant-put_blanks-loop-part
invariant-put_blanks-loop-part l =
    contents_tree l.contents ++ blank_cells (joined_of (map blank_tree (drop l.part-index l.parts))) ≡ contents_tree l.initial.contents ++ blank_cells (joined_of (map blank_tree l.parts))
