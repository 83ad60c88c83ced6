use Rattle.std.proofs.Common.{◌≡◌, drop}
use Rattle.std.specs.List.{list_all}
use Rattle.qs_alloc.specs.Verification.{is_apart_from_parameter}
use Rattle.qs_alloc.proofs.sharing.is_apart_from_parameters.Given as goal

abbrev pub invariant-loop-parameter : goal.invariant-loop-parameter
invariant-loop-parameter l = list_all (is_apart_from_parameter l.at l.t) (drop l.parameter-index l.parameters) ≡ list_all (is_apart_from_parameter l.at l.t) l.parameters
