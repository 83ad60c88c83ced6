use Rattle.std.proofs.Common.{◌≡◌, ◌++◌, flat_map, map, drop}
use Rattle.qs_core.specs.TreeOf.{parameter_tree}
use Rattle.qs_core.specs.Outline.{parameter_text}
use Rattle.qs_core.proofs.outline.put_parameters.Given as goal

-- those so far are written, and the rest gives the whole
abbrev pub invariant-loop-p : goal.invariant-loop-p
invariant-loop-p l = l.out.items ++ flat_map parameter_text (map parameter_tree (drop l.p-index l.ps)) ≡ l.fn.out.items ++ flat_map parameter_text (map parameter_tree l.ps)
