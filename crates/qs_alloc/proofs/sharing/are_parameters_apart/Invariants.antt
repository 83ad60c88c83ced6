use Rattle.std.proofs.Common.{◌≡◌, drop}
use Rattle.std.proofs.Common.{map}
use Rattle.std.specs.List.{list_all, slice_get}
use Rattle.qs_tac.specs.TreeOf.{instruction_tree}
use Rattle.qs_alloc.specs.Verification.{is_parameter_apart}
use Rattle.qs_alloc.proofs.sharing.are_parameters_apart.Given as goal

abbrev pub invariant-loop-parameter : goal.invariant-loop-parameter
invariant-loop-parameter l = list_all (is_parameter_apart l.parameters l.at (slice_get (map instruction_tree l.code) 0) l.later) (drop l.parameter-index l.parameters) ≡ list_all (is_parameter_apart l.parameters l.at (slice_get (map instruction_tree l.code) 0) l.later) l.parameters
