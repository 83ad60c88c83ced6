use Rattle.std.proofs.Common.{◌≡◌, map, drop}
use Rattle.qs_syntax.specs.TreeOf.{decl_tree}
use Rattle.qs_typed_nodes.specs.Behind.{followed}
use Rattle.qs_typed_units.specs.KnownBlocks.{blocks_known}
use Rattle.qs_typed_units.specs.TablesOf.{tables_tree}
use Rattle.qs_typed_trees.specs.TreeOf.{static_block_tree}
use Rattle.qs_typed_units.proofs.static_data.blocks.Given as goal

abbrev pub invariant-loop-d : goal.invariant-loop-d
invariant-loop-d l =
    blocks_known (tables_tree l.t) (map decl_tree l.ds) ≡ followed (map static_block_tree l.all.items) (blocks_known (tables_tree l.t) (map decl_tree (drop l.d-index l.ds)))
