use Rattle.std.proofs.Common.{◌≡◌, ◌++◌, drop}
use Rattle.qs_core.specs.UnitTrees.{unit_tree}
use Rattle.qs_callgraph.specs.CallLists.{numbers}
use Rattle.qs_analyse.specs.Needs.{named_calls}
use Rattle.qs_analyse.proofs.definitions.named_calls.Given as goal

abbrev pub invariant-loop-g : goal.invariant-loop-g
invariant-loop-g l =
    l.parts.items ++ named_calls (unit_tree l.unit) (numbers (drop l.g-index l.callees)) ≡ named_calls (unit_tree l.unit) (numbers l.callees)
