use Rattle.std.proofs.Common.{◌≡◌, ◌++◌, drop}
use Rattle.qs_compile.proofs.UnsignedLaws.{scalars_of}
use Rattle.qs_compile.proofs.parameters.parameter_types.Given as goal

abbrev pub invariant-loop-variable : goal.invariant-loop-variable
invariant-loop-variable l = l.types.items ++ scalars_of (drop l.variable-index l.variable-items) ≡ scalars_of l.variable-items
