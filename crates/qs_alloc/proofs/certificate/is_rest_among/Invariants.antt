use Rattle.std.proofs.Common.{◌≡◌, drop}
use Rattle.std.specs.List.{list_all}
use Rattle.qs_alloc.specs.Verification.{is_passed}
use Rattle.qs_alloc.proofs.certificate.is_rest_among.Given as goal

abbrev pub invariant-loop-t : goal.invariant-loop-t
invariant-loop-t l = list_all (is_passed l.written l.earlier) (drop l.t-index l.later) ≡ list_all (is_passed l.written l.earlier) l.later
