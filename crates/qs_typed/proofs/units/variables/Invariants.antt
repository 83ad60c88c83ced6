use Rattle.std.proofs.Common.{◌≡◌, ◌++◌, map, drop}
use Rattle.qs_syntax.specs.TreeOf.{decl_tree}
use Rattle.qs_typed_units.specs.TablesOf.{numbers, tables_tree}
use Rattle.qs_typed.specs.UnitVariables.{variables_known}
use Rattle.qs_typed.proofs.units.variables.Given as goal

abbrev pub invariant-loop-d : goal.invariant-loop-d
invariant-loop-d l =
    variables_known (tables_tree l.t) (map decl_tree l.ds) ≡ map numbers l.all.items ++ variables_known (tables_tree l.t) (map decl_tree (drop l.d-index l.ds))
