use Rattle.std.proofs.Common.{◌≡◌, map, drop}
use Rattle.qs_syntax.specs.TreeOf.{decl_tree}
use Rattle.qs_tasks_list.specs.Listing.{defined_in, function_from}
use Rattle.qs_tasks_list.proofs.functions.task_function.Given as goal

-- the functions of the declarations so far are others
abbrev pub invariant-loop-declaration : goal.invariant-loop-declaration
invariant-loop-declaration l =
    function_from l.number l.fn.name (defined_in (map decl_tree (drop l.declaration-index l.declarations)))
    ≡ function_from 0 l.fn.name (defined_in (map decl_tree l.declarations))
