use Rattle.qs_core.specs.Interfaces.{parameter_types}
use Rattle.qs_core.specs.TreeOf.{function_tree}
use Rattle.qs_driver_calls.proofs.ArgumentLaws.{Passed}
use Rattle.qs_driver_calls.proofs.arguments.fit_parameters.Given as goal

abbrev pub invariant-loop-i : goal.invariant-loop-i
invariant-loop-i l = Passed (parameter_types (function_tree l.fn.main)) l.fn.args l.i
