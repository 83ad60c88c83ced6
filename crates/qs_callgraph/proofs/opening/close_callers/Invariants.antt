use Rattle.std.proofs.Common.{◌≡◌, drop}
use Rattle.qs_callgraph.specs.CallLists.{marked, numbers}
use Rattle.qs_callgraph.specs.Opens.{AddsDue}
use Rattle.qs_callgraph.proofs.opening.close_callers.Given as goal

abbrev pub invariant-loop-f : goal.invariant-loop-f
invariant-loop-f l = record {
  closed : marked (numbers (drop l.f-index l.callers)) l.closed ≡ marked (numbers l.callers) l.initial.closed;
  adds : AddsDue l.initial.closed l.closed (numbers l.initial.due.items) (numbers l.due.items);
}
