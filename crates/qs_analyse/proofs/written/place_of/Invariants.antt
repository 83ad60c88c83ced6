use Rattle.std.proofs.Common.{◌≡◌, ◌+◌, drop}
use Rattle.qs_callgraph.specs.CallLists.{numbers}
use Rattle.qs_analyse.specs.Written.{place_of}
use Rattle.qs_analyse.proofs.written.place_of.Given as goal

abbrev pub invariant-loop-i : goal.invariant-loop-i
invariant-loop-i l = l.i + place_of (numbers (drop l.i l.callees)) l.g.0 ≡ place_of (numbers l.callees) l.g.0
