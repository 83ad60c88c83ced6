use Rattle.std.proofs.Common.{◌≡◌, ◌++◌, map, drop}
use Rattle.qs_syntax.specs.TreeOf.{decl_tree}
use Rattle.qs_meaning.specs.Units.{functions_in}
use Rattle.qs_typed_units.proofs.tables.functions_in.Given as goal

abbrev pub invariant-loop-d : goal.invariant-loop-d
invariant-loop-d l = functions_in (map decl_tree l.ds) ≡ l.names.keys ++ functions_in (map decl_tree (drop l.d-index l.ds))
