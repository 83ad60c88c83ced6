use Rattle.std.proofs.Common.{◌≡◌, ◌≤◌, ◌+◌, ◌*◌, drop}
use Rattle.qs_entail.specs.Flattening.{polynomial_counts}
use Rattle.qs_entail.proofs.outlining.count_polynomials.Given as goal

abbrev pub invariant-loop-c : goal.invariant-loop-c
invariant-loop-c l = record {
  all : l.count + polynomial_counts (drop l.c-index l.conditions) ≡ polynomial_counts l.conditions;
  within : l.count ≤ 2 * l.c-index;
}
