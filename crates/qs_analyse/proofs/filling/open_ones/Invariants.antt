use Rattle.std.proofs.Common.{◌≡◌, ◌++◌, drop, filter}
use Rattle.qs_callgraph.specs.CallLists.{flag, numbers}
use Rattle.qs_analyse.proofs.filling.open_ones.Given as goal

abbrev pub invariant-loop-f : goal.invariant-loop-f
invariant-loop-f l = numbers l.opened.items ++ filter (flag l.is_open) (numbers (drop l.f-index l.fs)) ≡ filter (flag l.is_open) (numbers l.fs)
