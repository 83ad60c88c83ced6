use Rattle.std.proofs.Common.{◌≡◌, drop}
use Rattle.qs_callgraph.specs.CallLists.{numbers, number_lists}
use Rattle.qs_callgraph.specs.Opens.{with_caller}
use Rattle.qs_callgraph.proofs.callers.add_caller.Given as goal

abbrev pub invariant-loop-g : goal.invariant-loop-g
invariant-loop-g l =
    with_caller l.f.0 (numbers (drop l.g-index l.callees)) (number_lists l.callers) ≡ with_caller l.f.0 (numbers l.callees) (number_lists l.initial.callers)
