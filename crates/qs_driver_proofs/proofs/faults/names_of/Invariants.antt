use Rattle.std.proofs.Common.{◌≡◌, ◌++◌, drop, map}
use Rattle.qs_core.specs.UnitTrees.{unit_tree}
use Rattle.qs_core.specs.FunctionNames.{function_name}
use Rattle.qs_callgraph.specs.CallLists.{numbers}
use Rattle.qs_driver_proofs.proofs.faults.names_of.Given as goal

abbrev pub invariant-loop-f : goal.invariant-loop-f
invariant-loop-f l =
    l.names.items ++ map (function_name (unit_tree l.unit)) (numbers (drop l.f-index l.functions)) ≡ map (function_name (unit_tree l.unit)) (numbers l.functions)
