use Rattle.std.proofs.Common.{◌≡◌, ◌+◌, ◌≤◌, map, drop}
use Rattle.qs_core.specs.TreeOf.{function_tree}
use Rattle.qs_compile.specs.Limits.{bytes_of_names}
use Rattle.qs_compile.proofs.building.names_fit.Given as goal

abbrev pub invariant-loop-f : goal.invariant-loop-f
invariant-loop-f l =
    (l.bytes + bytes_of_names (map function_tree (drop l.f-index l.functions)) ≡ bytes_of_names (map function_tree l.functions)) × (l.bytes ≤ 1048576)
