use Rattle.std.proofs.Common.{◌≡◌, ◌++◌, flat_map, map, drop}
use Rattle.qs_core.specs.TreeOf.{core_expr, function_tree}
use Rattle.qs_core.specs.Outline.{argument_text}
use Rattle.qs_core.proofs.outline.put_arguments.Given as goal

-- those so far are written, and the rest gives the whole
abbrev pub invariant-loop-e : goal.invariant-loop-e
invariant-loop-e l = l.out.items ++ flat_map (argument_text (function_tree l.f)) (map core_expr (drop l.e-index l.es)) ≡ l.fn.out.items ++ flat_map (argument_text (function_tree l.f)) (map core_expr l.es)
