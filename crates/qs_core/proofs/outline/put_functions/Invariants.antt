use Rattle.std.proofs.Common.{◌≡◌, ◌++◌, flat_map, map, drop}
use Rattle.qs_core.specs.TreeOf.{function_tree}
use Rattle.qs_core.specs.Outline.{outline_function}
use Rattle.qs_core.proofs.outline.put_functions.Given as goal

-- those so far are written, and the rest gives the whole
abbrev pub invariant-loop-f : goal.invariant-loop-f
invariant-loop-f l = l.out.items ++ flat_map (outline_function (map function_tree l.functions)) (map function_tree (drop l.f-index l.functions)) ≡ l.fn.out.items ++ flat_map (outline_function (map function_tree l.functions)) (map function_tree l.functions)
