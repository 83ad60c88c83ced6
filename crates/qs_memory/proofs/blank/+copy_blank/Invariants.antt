use Rattle.std.proofs.Common.{◌≡◌, ◌++◌, map, drop}
use Rattle.qs_memory.specs.BlankOf.{blank_tree}
use Rattle.qs_memory.proofs.blank.+copy_blank.Given as goal

abbrev pub invariant-copy_blanks-loop-part : goal.invariant-copy_blanks-loop-part
invariant-copy_blanks-loop-part l = record {
  tree : map blank_tree l.to.items ++ map blank_tree (drop l.part-index l.from) ≡ map blank_tree l.from;
}
