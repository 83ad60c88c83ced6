use Rattle.std.proofs.Common.{◌≡◌, [], map, option_map, drop}
use Rattle.qs_syntax.specs.TreeOf.{decl_tree}
use Rattle.qs_types.specs.TypeOf.{type_tree}
use Rattle.qs_typed_nodes.specs.KnownOf.{headers_tree}
use Rattle.qs_typed_units.specs.KnownUnits.{headers_behind}
use Rattle.qs_typed_units.proofs.function_headers.headers.Given as goal

abbrev pub invariant-loop-d : goal.invariant-loop-d
invariant-loop-d l =
    headers_behind (map (option_map type_tree) l.types) [] (map decl_tree l.ds)
    ≡ headers_behind (map (option_map type_tree) l.types) (headers_tree l.headers.entries) (map decl_tree (drop l.d-index l.ds))
