use Rattle.std.proofs.Common.{◌≡◌, ◌++◌, map, drop}
use Rattle.qs_core.specs.TreeOf.{data_block_tree}
use Rattle.qs_typed_trees.specs.TreeOf.{static_block_tree}
use Rattle.qs_elaborate_bodies.specs.Data.{data_core}
use Rattle.qs_elaborate.proofs.data_blocks.data_blocks.Given as goal

-- those so far are done, and the rest gives the whole
abbrev pub invariant-loop-b : goal.invariant-loop-b
invariant-loop-b l = map data_block_tree l.data.items ++ map data_core (map static_block_tree (drop l.b-index l.blocks)) ≡ map data_core (map static_block_tree l.blocks)
