use Rattle.std.proofs.Common.{◌≡◌, drop}
use Rattle.std.specs.List.{list_any}
use Rattle.qs_alloc.specs.Registers.{is_plain}
use Rattle.qs_alloc.proofs.points.is_parameter.Given as goal

abbrev pub invariant-loop-parameter : goal.invariant-loop-parameter
invariant-loop-parameter l = list_any (is_plain l.t) (drop l.parameter-index l.parameters) ≡ list_any (is_plain l.t) l.parameters
