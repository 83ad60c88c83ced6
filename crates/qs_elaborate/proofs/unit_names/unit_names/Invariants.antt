use Rattle.std.proofs.Common.{◌≡◌, ◌++◌, length, map, drop}
use Rattle.qs_syntax.specs.TreeOf.{decl_tree}
use Rattle.qs_elaborate.specs.NamesOf.{names_of}
use Rattle.qs_elaborate.specs.UnitNames.{declarations_named}
use Rattle.qs_elaborate.proofs.unit_names.unit_names.Given as goal

-- those so far are named, and the rest gives the whole
abbrev pub invariant-loop-d : goal.invariant-loop-d
invariant-loop-d l =
    map names_of l.names.items
    ++ declarations_named (drop (length (map names_of l.names.items)) (map (λ v. v.items) l.all)) (drop l.d-index (map decl_tree l.ds))
    ≡ declarations_named (map (λ v. v.items) l.all) (map decl_tree l.ds)
