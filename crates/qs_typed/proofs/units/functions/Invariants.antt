use Rattle.std.proofs.Common.{◌≡◌, map, drop}
use Rattle.qs_syntax.specs.TreeOf.{decl_tree}
use Rattle.qs_typed_nodes.specs.Behind.{followed}
use Rattle.qs_typed_units.specs.KnownPrograms.{functions_known}
use Rattle.qs_typed_units.specs.TablesOf.{tables_tree}
use Rattle.qs_typed_trees.specs.TreeOf.{function_tree}
use Rattle.qs_typed.proofs.units.functions.Given as goal

abbrev pub invariant-loop-d : goal.invariant-loop-d
invariant-loop-d l =
    functions_known (tables_tree l.t) (map decl_tree l.ds) ≡ followed (map function_tree l.all.items) (functions_known (tables_tree l.t) (map decl_tree (drop l.d-index l.ds)))
