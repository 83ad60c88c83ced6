use Rattle.std.proofs.Common.{◌≡◌, ◌++◌, drop}
use Rattle.qs_driver.specs.Bounds.{costs_in}
use Rattle.qs_driver.proofs.made.costs_of.Given as goal

abbrev pub invariant-loop-function : goal.invariant-loop-function
invariant-loop-function l = l.costs.items ++ costs_in (drop l.function-index l.functions) ≡ costs_in l.functions
