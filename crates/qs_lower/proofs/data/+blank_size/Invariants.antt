use Rattle.std.proofs.Common.{◌≡◌, ◌+◌, map, drop}
use Rattle.qs_memory.specs.BlankOf.{blank_tree, joined_of}
use Rattle.qs_memory.specs.Sizes.{blank_size}
use Rattle.qs_lower.proofs.data.+blank_size.Given as goal

abbrev pub invariant-blanks_size-loop-part : goal.invariant-blanks_size-loop-part
invariant-blanks_size-loop-part l =
    l.size + blank_size (joined_of (map blank_tree (drop l.part-index l.parts))) ≡ blank_size (joined_of (map blank_tree l.parts))
