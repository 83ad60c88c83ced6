use Rattle.std.proofs.Common.{◌≡◌, ◌++◌, map, drop}
use Rattle.qs_core.specs.TreeOf.{data_block_tree}
use Rattle.qs_lower.specs.Units.{lower_data}
use Rattle.qs_lower.proofs.data.lower_data_blocks.Given as goal

abbrev pub invariant-loop-d : goal.invariant-loop-d
invariant-loop-d l = l.all.items ++ map lower_data (map data_block_tree (drop l.d-index l.ds)) ≡ map lower_data (map data_block_tree l.ds)
