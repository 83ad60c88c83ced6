use Rattle.std.proofs.Common.{◌≡◌, ◌++◌, map, drop}
use Rattle.qs_syntax.specs.TreeOf.{parameter_tree}
use Rattle.qs_syntax_copies.proofs.units.copy_parameters.Given as goal

abbrev pub invariant-loop-parameter : goal.invariant-loop-parameter
invariant-loop-parameter l = record {
  tree : map parameter_tree l.to.items ++ map parameter_tree (drop l.parameter-index l.from) ≡ map parameter_tree l.from;
}
