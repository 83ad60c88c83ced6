use Rattle.std.proofs.Common.{◌≡◌, drop}
use Rattle.qs_alloc.specs.Verification.{is_among}
use Rattle.qs_alloc.proofs.certificate.is_among.Given as goal

abbrev pub invariant-loop-u : goal.invariant-loop-u
invariant-loop-u l = is_among (drop l.u-index l.list) l.t ≡ is_among l.list l.t
