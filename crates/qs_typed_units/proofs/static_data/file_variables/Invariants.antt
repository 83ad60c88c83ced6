use Rattle.std.proofs.Common.{◌≡◌, map, drop}
use Rattle.qs_syntax.specs.TreeOf.{variable_tree}
use Rattle.qs_typed_nodes.specs.Behind.{followed}
use Rattle.qs_typed_units.specs.KnownBlocks.{file_variables_known}
use Rattle.qs_typed_units.specs.TablesOf.{tables_tree}
use Rattle.qs_typed_trees.specs.TreeOf.{static_block_tree}
use Rattle.qs_typed_units.proofs.static_data.file_variables.Given as goal

abbrev pub invariant-loop-v : goal.invariant-loop-v
invariant-loop-v l =
    file_variables_known (tables_tree l.t) (map variable_tree l.vs)
    ≡ followed (map static_block_tree l.all.items) (file_variables_known (tables_tree l.t) (map variable_tree (drop l.v-index l.vs)))
