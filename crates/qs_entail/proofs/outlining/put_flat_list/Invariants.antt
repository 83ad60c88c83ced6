use Rattle.std.proofs.Common.{◌≡◌, ◌++◌, drop}
use Rattle.qs_entail.specs.Flattening.{flat_list}
use Rattle.qs_entail.proofs.outlining.put_flat_list.Given as goal

abbrev pub invariant-loop-c : goal.invariant-loop-c
invariant-loop-c l = l.list.items ++ flat_list (drop l.c-index l.hypotheses) ≡ l.initial.list.items ++ flat_list l.hypotheses
